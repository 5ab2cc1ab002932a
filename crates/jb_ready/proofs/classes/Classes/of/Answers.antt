use Rattle.std.proofs.Common.{refl, subst, take_all}
use Rattle.jb_ready.proofs.ClassSets.{IsListed, more-listed, none-listed, set-listed}
use Rattle.jb_ready.proofs.classes.Classes.of.Goals as goal

pub loop-class-init : goal.loop-class-init
loop-class-init c = none-listed 0 refl

pub loop-class-preserved : goal.loop-class-preserved
loop-class-preserved c =
    more-listed c.args.classes.now c.loop-class.class-index c.class-item.result c.loop-class.bits c.bit-bits.result c.loop-class-test.true c.class-item.is c.bit-bits.ensures c.loop-class.invariant

pub returns : goal.returns
returns c =
    let classes = c.args.classes.now in
    set-listed c.loop-class.bits classes (subst (IsListed c.loop-class.bits) (take_all c.loop-class.class-index classes c.loop-class-test.false) c.loop-class.invariant)
