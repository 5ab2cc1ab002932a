use Rattle.std.proofs.Common.{◌∙◌, true, false, sym, subst}
use Rattle.std.{proofs.Math.Logic.{∥∥₁_map, ∥∥₁_elim}, proofs.lemmas.Bool.or_parts}
use Rattle.jb_slice_file.proofs.stop.without_history.Goals as goal

pub returns-clause-left : goal.returns-clause-left
returns-clause-left g c none image may =
    let could = g.G.DiskHistory.could_leave in
    let placed = c.are_in_place.ensures c.if-not-are_in_place.false in
    let written = or_parts _ _ none in
    ∥∥₁_elim (c.into_disk.ensures.left (sym c.has_written.ensures ∙ written.0) image.log may.0) squash₁ (λ log.
    ∥∥₁_map (c.into_disk-2.ensures.left (sym c.has_written-2.ensures ∙ written.1) image.db may.1) (λ db.
    let both : could true image.log × could false image.db =
    (subst (λ is. could is image.log) (sym c.is_log.ensures ∙ placed.0) log, subst (λ is. could is image.db) (sym c.is_log-2.ensures ∙ placed.1) db) in both))
