-- The form of the database: one table.
use Rattle.std.specs.Prelude.{◌≡◌, ◌≢◌, ℕ, Bool, true, false, List, [], ◌∷◌, Some, codes}
use Rattle.std.specs.List.{list_any}
use Rattle.sqlite.specs.Collation.TheVariants.{Binary}
use Rattle.sqlite.specs.declared.types.Value.TheVariants.{Null}
use Rattle.sqlite.specs.Kind.{Kind}
use Rattle.sqlite.specs.Kind.TheVariants.{Integer, Text, Blob}
use Rattle.sqlite.specs.Table.{Table}
use Rattle.sqlite.specs.Schema.{Schema}
use Rattle.sqlite_schema.specs.declared.schema.Column.{Column}
use Rattle.sqlite_schema.specs.Names.{same_name}

-- a column of a STRICT table, with no default
abbrev pub strict_column : List ℕ → Kind → Bool → Column
strict_column name kind not_null = record { name = name; kind = kind; is_strict = true; not_null = not_null; default = Null; collation = Binary }

abbrev pub checkpoint_columns : List Column
checkpoint_columns = strict_column (codes "number") Integer false ∷ strict_column (codes "saved") Text true ∷ strict_column (codes "results") Blob true
    ∷ strict_column (codes "link") Blob true ∷ []

-- The table of checkpoints: number, the key of the row; saved, a text; results and link, bytes. None is NULL, and there is no further rule.
abbrev pub checkpoint : Table
checkpoint = record {
  name = codes "checkpoint";
  tree = 0;
  columns = checkpoint_columns;
  key = Some 0;
  primary = 0 ∷ [];
  uniques = [];
  orders = [];
  checks = [];
  references = [];
  computed = [];
  stamps = record { places = []; terms = []; formats = [] };
  is_counted = false;
}

-- a database of checkpoints has this table and nothing else
abbrev pub checkpoint_schema : Schema
checkpoint_schema = record { tables = checkpoint ∷ []; indexes = []; views = [] }

-- nothing is defined yet
abbrev pub no_schema : Schema
no_schema = record { tables = []; indexes = []; views = [] }

-- it has a table named as ours, in upper or lower case
abbrev pub named_checkpoint : Schema → Bool
named_checkpoint schema = list_any (λ t. same_name t.name (codes "checkpoint")) schema.tables

-- Something is defined, and no table is named as ours: the database is another program's.
pub record IsForeign (schema : Schema) : Type 0 where
  pub something : schema ≢ no_schema
  pub unnamed : named_checkpoint schema ≡ false

-- A table is named as ours, but it is defined in another way, or more is defined beside it: the database is another version's.
pub record IsOtherVersion (schema : Schema) : Type 0 where
  pub other : schema ≢ checkpoint_schema
  pub named : named_checkpoint schema ≡ true
