-- A header as a text for people (own choice). Nothing reads it back.
use Rattle.std.specs.Prelude.{ℕ, List, map, codes}
use Rattle.serde_json.specs.Data.{Data, string, object, member, no_members}
use Rattle.serde_json.specs.Written.{compact_text}
use Rattle.jb_job.specs.JobTree.{number_tree, list_tree}
use Rattle.jb_slice_run.specs.Members.{classes_tree, limit_tree}
use Rattle.jb_slices.specs.Checkpoint.{Header}

-- the version of this form
abbrev pub form_version : ℕ
form_version = 3

abbrev pub names_tree : List (List ℕ) → Data
names_tree names = list_tree (map string names)

abbrev pub header_tree : Header → Data
header_tree h = object
    (member (codes "form") (number_tree form_version)
    (member (codes "job") (string h.job.name)
    (member (codes "slice") (number_tree h.number)
    (member (codes "items") (number_tree h.items)
    (member (codes "slice-length") (number_tree h.job.slice_length)
    (member (codes "partitions") (number_tree h.job.partitions)
    (member (codes "item-count") (number_tree h.job.item_count)
    (member (codes "classes") (names_tree h.job.classes.names)
    (member (codes "skippable") (classes_tree h.job.classes.skippable)
    (member (codes "retryable") (classes_tree h.job.classes.retryable)
    (member (codes "no-rollback") (classes_tree h.job.classes.no_rollback)
    (member (codes "skip-limit") (limit_tree h.limits.skips)
    (member (codes "job-skip-limit") (limit_tree h.limits.job_skips)
    (member (codes "retry-limit") (number_tree h.limits.retries)
    (member (codes "stamp") (string h.stamp) no_members)))))))))))))))

-- THE TEXT OF A HEADER: one JSON object, with no space
abbrev pub header_text : Header → List ℕ
header_text h = compact_text (header_tree h)
