use Rattle.std.proofs.Common.{refl, subst, ap, ◌∙◌}
use Rattle.jb_slice_run.specs.Coding.{AreCodable, coded}
use Rattle.jb_slice_run.proofs.writing.header_checkpoint.Goals as goal

pub returns-clause-kept : goal.returns-clause-kept
returns-clause-kept c =
    let given = c.deref.ensures.value ∙ c.in_ok-lists.ensures.lists in
    record {
      small = c.in_ok-lists.ensures.small;
      text = c.in_ok-saved.ensures;
      lists = record { codable = subst AreCodable given c.in_ok-results.ensures.fits; coding = c.in_ok-results.ensures.coded ∙ ap coded given; number = refl };
    }
