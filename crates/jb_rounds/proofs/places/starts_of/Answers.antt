use Rattle.std.proofs.Common.{◌≡◌, ◌+◌, ◌<◌, ◌++◌, ◌∷◌, [], length, get_or, take, sum, ap, ◌∙◌, arith}
use Rattle.std.proofs.lemmas.List.{take_more}
use Rattle.std.proofs.lemmas.List.Sums.{sum_by_more, sum_by-take-le}
use Rattle.jb_rounds.specs.inside.Starts.{starts_from}
use Rattle.jb_rounds.proofs.PrefixSums.{starts_from-push}
use Rattle.jb_rounds.proofs.places.starts_of.Goals as goal

pub overflow_add-end : goal.overflow_add-end
overflow_add-end c =
    let counts = c.args.counts.now in
    let i = c.loop-count.count-index in
    let more = sum_by_more (λ x. x) counts i 0 (omega arith) in
    let within = sum_by-take-le (λ x. x) counts (i + 1) in
    omega (arith, more, within, c.requires, c.loop-count.invariant.0)

pub loop-count-preserved : goal.loop-count-preserved
loop-count-preserved c =
    let counts = c.args.counts.now in
    let i = c.loop-count.count-index in
    let inside : i < length counts = omega arith in
    let end : c.loop-count.end + get_or counts i 0 ≡ sum (take (i + 1) counts) =
    omega (arith, sum_by_more (λ x. x) counts i 0 inside, c.loop-count.invariant.0) in
    let starts : starts_from 0 (take (i + 1) counts) ≡ starts_from 0 (take i counts) ++ (0 + (sum (take i counts) + get_or counts i 0)) ∷ [] =
    ap (starts_from 0) (take_more counts i 0 inside) ∙ starts_from-push 0 (take i counts) (get_or counts i 0) in
    let last : 0 + (sum (take i counts) + get_or counts i 0) ≡ c.loop-count.end + get_or counts i 0 = omega (arith, c.loop-count.invariant.0) in
    let pushed = c.in_ok-push-2.ensures.items in
    (end, cc)
