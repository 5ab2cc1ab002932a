use Rattle.std.proofs.Common.{◌≡◌, ◌-◌, suc, ap, sym, ◌∙◌, arith, ℕ, List, [], ◌∷◌, refl}
use Rattle.jb_base.specs.Packed.{start_of}
use Rattle.jb_base.proofs.Packed.{start_is}
use Rattle.jb_base.proofs.packed_list.start_of.Goals as goal

first : (ends : List ℕ) (index : ℕ) → index ≡ 0 → 0 ≡ start_of 0 ends index
first [] index is = refl
first (end ∷ ends) index is = sym (ap (start_of 0 (end ∷ ends)) is)

pub returns-then-index-eq0 : goal.returns-then-index-eq0
returns-then-index-eq0 c = first c.args.ends.now c.args.index c.if-index-eq0.true

pub returns-else-index-eq0 : goal.returns-else-index-eq0
returns-else-index-eq0 c =
    let one_before : suc (c.args.index - 1) ≡ c.args.index = omega arith in
    sym (ap (start_of 0 c.args.ends.now) (sym one_before) ∙ start_is 0 c.args.ends.now (c.args.index - 1) (omega arith))
