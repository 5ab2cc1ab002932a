-- A slice that failed, and its bytes.
use Rattle.std.{proofs.Common.{ℕ, zero, suc, ◌≡◌, ◌<◌, ◌^◌, false, List, [], ◌∷◌, length, slice_get, codes, true, rules, Some, subst, refl, ap, ◌∙◌, arith}, proofs.lemmas.Str.{IsUtf8-from_is_utf8}, specs.Char.{encode_utf8}, specs.Fmt.{digits}, specs.Str.{IsUtf8, chars, is_utf8}}
use Rattle.serde_json.{specs.Written.{compact_text}, proofs.OnLiterals.{serde_json_on_literals}}
use Rattle.jb_job.proofs.Texts.{tree_of-read}
use Rattle.jb_saved.specs.{SavedTree.{saved_tree}, Worked.{row}, Laws.{TextIsRead, TreeIsRead}, Reading.{answer_of}, SavedRows.{IsSaved}}
use Rattle.sha2.specs.Sha256.{digest_bytes, sha256}
use Rattle.jb_mapper.specs.EvenCover.{even_ranges}
use Rattle.jb_slice_run.specs.{Example.{SomeAreStored, failed_header, failed_interval, failed_partitions, failed_rows, two}, Strings.{all_new_output, header_lists, interval_lists, number_string}, Coding.{AreCodable}}
use Rattle.jb_rows.specs.Fields.{code_of, cut, field_from, fields_in, fields_up_to, packed, packed_field, size_code, size_from}
use Rattle.jb_rules.specs.{Sound.{IsSoundRow}, States.{is_running}, declared.row.RowState.TheVariants.{Failed}, declared.row.Row.{Row}}
use Rattle.jb_slices.specs.{Example.{example_job, fault_of_nine, limits_of, one_function}, Checkpoint.{Begins, GoesOn, digest_of}, Function.{Pass}, Job.{rules_of}, Partitions.{IsStop}, Slice.{IsSliceSoFar}}

-- ---- the slice

none-pass : Pass (rules_of example_job (limits_of 0)) []
none-pass = search rules

stops : IsStop (one_function []) (rules_of example_job (limits_of 0)) 0 two fault_of_nine
unfolding fields_in fields_up_to field_from size_from cut
stops = record { before = 1; within = omega arith; number = refl; class = refl; passed = none-pass; fails = λ pass. omega (arith, pass.few) }

so-far : IsSliceSoFar example_job one_function 0 two (Begins failed_header ∷ GoesOn failed_interval ∷ [])
unfolding even_ranges code_of cut field_from fields_in fields_up_to packed packed_field size_code size_from
so-far = (
  record { first = refl; header_is = refl },
  (
    record {
      begun = refl;
      raised = search rules;
      ranges = refl;
      so_far = (
        refl,
        omega arith,
        record { results = refl; skips = refl; written = refl; counted = refl; skipped = refl; passed = none-pass; failed = λ e. (fault_of_nine, refl, stops); finished = λ e. cc },
        refl,
      );
    },
    tt,
  ),
)

-- ---- its header and its interval

digest_short : (items : List (List ℕ)) → length (digest_of items) < 2 ^ 32
unfolding digest_of sha256 digest_bytes
digest_short items = omega arith

header_codable : AreCodable (header_lists failed_header)
unfolding number_string
header_codable = (record { few = omega arith; short = (digest_short two, tt) }, search rules)

interval_codable : AreCodable (interval_lists (limits_of 0) (all_new_output failed_partitions))
unfolding number_string
interval_codable = search rules

-- ---- its rows

idle : (i : ℕ) (r : Row) → slice_get failed_rows.rows i ≡ Some r → IsSoundRow r × (is_running r.state ≡ false)
idle zero r is = let same : row 0 2 1 0 1 1 Failed ≡ r = cc in subst (λ (s : Row). IsSoundRow s × (is_running s.state ≡ false)) same (search rules, refl)
idle (suc i) r is = cc

saved : IsSaved failed_rows
saved = record { named = search rules; some_rows = search rules; few_rows = search rules; idle = idle; disjoint = λ i j d below within. absurd (omega (arith, below, within)) }

text_is : compact_text (saved_tree failed_rows) ≡ codes "{\"rows\":[[0,2,1,0,0,1,1,1,1,0,0,0,0,0,0,\"failed\"]],\"step\":\"s\",\"version\":2}"
unfolding digits serde_json_on_literals
text_is = refl

text_utf8 : is_utf8 (codes "{\"rows\":[[0,2,1,0,0,1,1,1,1,0,0,0,0,0,0,\"failed\"]],\"step\":\"s\",\"version\":2}") ≡ true
unfolding is_utf8 chars encode_utf8
text_utf8 = refl

utf8 : IsUtf8 (compact_text (saved_tree failed_rows))
utf8 = IsUtf8-from_is_utf8 (compact_text (saved_tree failed_rows)) (ap is_utf8 text_is ∙ text_utf8)

pub some_kept : TextIsRead → TreeIsRead → SomeAreStored
some_kept text tree = record {
  checkpoints = Begins failed_header ∷ GoesOn failed_interval ∷ [];
  stored_as = (
    record { small = search rules; text = refl; lists = record { codable = header_codable; coding = refl; number = refl } },
    (
      record {
        small = search rules;
        new_output_small = search rules;
        held = failed_rows;
        read = ap answer_of (tree_of-read (compact_text (saved_tree failed_rows)) (saved_tree failed_rows) utf8 (text failed_rows saved)) ∙ tree failed_rows saved;
        rows = refl;
        lists = record { codable = interval_codable; coding = refl; number = refl };
      },
      tt,
    ),
  );
  so_far = so-far;
}
