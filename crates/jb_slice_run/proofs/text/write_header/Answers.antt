use Rattle.std.proofs.Common.{codes, List, ◌≡◌, [], ◌∷◌, ◌++◌, append_assoc}
use Rattle.json.specs.Token.{Token}
use Rattle.serde_json.specs.Data.{string}
use Rattle.jb_job.specs.JobTree.{number_tree}
use Rattle.jb_slice_run.specs.{Members.{classes_tree, limit_tree, member_tokens}, HeaderText.{names_tree}, Held.{header_in}}
use Rattle.jb_slice_run.proofs.text.write_header.Goals as goal

all_written : (m1 m2 m3 m4 m5 m6 m7 m8 m9 m10 m11 m12 m13 m14 m15 : List Token) (start last : Token) (old : List Token)
    → (((((((((((((old ++ start ∷ []) ++ m1) ++ m2) ++ m3) ++ (m4 ++ (m5 ++ (m6 ++ m7)))) ++ m8) ++ m9) ++ m10) ++ m11) ++ m12) ++ m13) ++ m14) ++ m15) ++ last ∷ []
    ≡ old ++ start ∷ (m1 ++ (m2 ++ (m3 ++ (m4 ++ (m5 ++ (m6 ++ (m7 ++ (m8 ++ (m9 ++ (m10 ++ (m11 ++ (m12 ++ (m13 ++ (m14 ++ (m15 ++ last ∷ [])))))))))))))))
all_written m1 m2 m3 m4 m5 m6 m7 m8 m9 m10 m11 m12 m13 m14 m15 start last old = simp append_assoc

pub returns-clause-header : goal.returns-clause-header
returns-clause-header c =
    let h = header_in c.args.header.now in
    rw (
      c.in_ok-end_object.ensures.ok,
      c.in_ok-write_text.ensures.member,
      c.in_ok-write_limits.ensures.limits,
      c.in_ok-write_sets.ensures.sets,
      c.in_ok-write_names.ensures.names,
      c.in_ok-write_sizes.ensures.sizes,
      c.in_ok-write_slice.ensures.slice,
      c.in_ok-begin_object.ensures.ok,
    )
    (all_written (member_tokens (codes "form") (number_tree 3)) (member_tokens (codes "job") (string h.job.name)) (member_tokens (codes "slice") (number_tree h.number))
    (member_tokens (codes "items") (number_tree h.items)) (member_tokens (codes "slice-length") (number_tree h.job.slice_length)) (member_tokens (codes "partitions") (number_tree h.job.partitions))
    (member_tokens (codes "item-count") (number_tree h.job.item_count)) (member_tokens (codes "classes") (names_tree h.job.classes.names)) (member_tokens (codes "skippable") (classes_tree h.job.classes.skippable))
    (member_tokens (codes "retryable") (classes_tree h.job.classes.retryable)) (member_tokens (codes "no-rollback") (classes_tree h.job.classes.no_rollback))
    (member_tokens (codes "skip-limit") (limit_tree h.limits.skips)) (member_tokens (codes "job-skip-limit") (limit_tree h.limits.job_skips))
    (member_tokens (codes "retry-limit") (number_tree h.limits.retries)) (member_tokens (codes "stamp") (string h.stamp)) _ _ _)
