-- What the three texts mean, computed.
use Rattle.std.proofs.Common.{◌≡◌, ℕ, pos, negsuc, List, [], ◌∷◌, codes, false, None, Ok, refl, arith}
use Rattle.sqlite.{specs.declared.types.Value.TheVariants.{Null, Int}, specs.Order.Row, specs.Tree.Trees, specs.Edit.{Edit, edit_of}, specs.Effect.value_rows, specs.Rows.stamped, specs.Rowids.TheVariants.Chosen, specs.Ops.unary, specs.Term.{Term, lit, col}, specs.Query.{Query, inner, end}, specs.Source.TheVariants.Values, specs.Collation.TheVariants.Binary, specs.Command.Command, specs.Command.TheVariants.{Insert, Select, CreateTable}, specs.Compile.table_defined_by, specs.Listing.{understood, reads_listing}, proofs.Callers.{IsPlain, command_of, statement_of}}
use Rattle.sqlite_tied.specs.Compute.{everything}
use Rattle.jb_slice_file.specs.{TableSchema.{checkpoint, checkpoint_schema, no_schema}, Chain.Linked, Numbered.at_number, Rows.{shown, stored}}

abbrev pub create_text : List ℕ
create_text = codes "CREATE TABLE checkpoint (number INTEGER PRIMARY KEY, saved TEXT NOT NULL, results BLOB NOT NULL, link BLOB NOT NULL) STRICT"

abbrev pub insert_text : List ℕ
insert_text = codes "INSERT INTO checkpoint (number, saved, results, link) VALUES (?1, ?2, ?3, ?4)"

abbrev pub select_text : List ℕ
select_text = codes "SELECT number, saved, results, link FROM checkpoint ORDER BY number"

abbrev pub terms : List Term
terms = col 0 0 ∷ lit Null ∷ col 0 1 ∷ col 0 2 ∷ col 0 3 ∷ []

abbrev pub query : Query
query = record {
  from = inner 0 end;
  filter = [];
  group = None;
  project = col 1 0 ∷ col 1 2 ∷ col 1 3 ∷ col 1 4 ∷ [];
  distinct = false;
  collations = [];
  order = (col 1 0, record { collation = Binary; descending = false }) ∷ [];
  limit = lit (Int (negsuc 0));
  offset = lit (Int (pos 0));
}

-- how each is understood: it has no RETURNING and reads no clock
pub create_is : (command_of (understood no_schema create_text) ≡ CreateTable) × (statement_of create_text (understood no_schema create_text) ≡ create_text) × (table_defined_by create_text ≡ Ok checkpoint)
    × IsPlain (understood no_schema create_text)
unfolding understood everything
create_is = (refl, refl, refl, (refl, refl))

pub insert_is : (command_of (understood checkpoint_schema insert_text) ≡ Insert 0 (Values terms 5)) × IsPlain (understood checkpoint_schema insert_text)
unfolding understood everything
insert_is = (refl, (refl, refl))

pub select_is : (command_of (understood checkpoint_schema select_text) ≡ Select (record { lets = []; body = query }) (codes "number" ∷ codes "saved" ∷ codes "results" ∷ codes "link" ∷ [])) × (reads_listing checkpoint_schema select_text ≡ false)
    × IsPlain (understood checkpoint_schema select_text)
unfolding understood everything
select_is = (refl, refl, (refl, refl))

-- what an insertion is given, and what it does with that
abbrev pub params : ℕ → Linked → Row
params number one = shown (at_number number one)

abbrev pub command : Command
command = Insert 0 (Values terms 5)

abbrev pub insert_statement : List ℕ
insert_statement = statement_of insert_text (understood checkpoint_schema insert_text)

-- the edit that it makes, by which one row is new
abbrev pub insert_edit : Trees → ℕ → Linked → Edit
insert_edit db number one = edit_of db checkpoint [] Chosen 0 (value_rows (stamped checkpoint (params number one)) 5 1 terms)

pub news_are : (db : Trees) (number : ℕ) (one : Linked) → (insert_edit db number one).news ≡ stored (at_number number one) ∷ []
unfolding unary
news_are db number one = grind arith
