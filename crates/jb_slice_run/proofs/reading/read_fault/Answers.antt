use Rattle.std.proofs.Common.{ap, ◌∷◌, [], length, arith, length-append}
use Rattle.jb_slice_run.{specs.Strings.{number_string}, proofs.Once.{fault_parted}}
use Rattle.jb_slice_run.proofs.reading.read_fault.Goals as goal

pub returns-in_err-class : goal.returns-in_err-class
returns-in_err-class c =
    rw c.from_residual.ensures (λ fault is. omega (arith, c.in_err-class.ensures.cases, ap length is, length-append (number_string fault.number) (fault.class.number ∷ [])))

pub returns-in_err-number : goal.returns-in_err-number
returns-in_err-number c =
    rw c.from_residual-in_err-number.ensures
    (λ fault is. c.in_err-number.ensures fault.number (fault_parted c.args.bytes.now c.in_ok-class.front.now c.in_ok-class.class.now c.in_ok-class.ensures.cases.0 fault is).0)

pub returns-then-class-ge64 : goal.returns-then-class-ge64
returns-then-class-ge64 c fault is =
    omega (arith, (fault_parted c.args.bytes.now c.in_ok-class.front.now c.in_ok-class.class.now c.in_ok-class.ensures.cases.0 fault is).1, fault.class.below, c.if-class-ge64.true)

pub returns : goal.returns
returns c = let parts = c.in_ok-class.ensures.cases in let number = c.in_ok-number.ensures in (cc (parts.0, number.0, c.new.ensures.number), number.1)
