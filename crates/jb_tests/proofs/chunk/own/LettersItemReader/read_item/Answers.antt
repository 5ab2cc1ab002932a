use Rattle.std.proofs.Common.{rules, ◌≡◌, ◌∙◌, ◌+◌, ◌-◌, ◌<◌, ◌∷◌, [], map, Some, ap, refl, sym, length, slice_index_or, arith}
use Rattle.std.proofs.lemmas.List.{get_or-map}
use Rattle.jb_artifacts.specs.declared.faults.FaultPlan.TheVariants.{Sound}
use Rattle.jb_artifacts.proofs.FaultTables.{used_at-sound}
use Rattle.jb_tests.proofs.chunk.own.LettersItemReader.read_item.Goals as goal

pub returns-clause-answered : goal.returns-clause-answered
returns-clause-answered c below =
    let letters = c.args.self.now.text.items in
    let place = c.args.self.now.place in
    let letter = c.index.result.now in
    let within : place < length letters = search rules in
    let made : c.in_ok-record.record ≡ letter ∷ [] = search rules in
    let here : place - 0 ≡ place = omega arith in
    let record_here : slice_index_or (map (λ byte. byte ∷ []) letters) (place - 0) [] ≡ letter ∷ [] =
    ap (λ k. slice_index_or (map (λ byte. byte ∷ []) letters) k []) here
    ∙ get_or-map (λ byte. byte ∷ []) letters place letter [] within ∙ ap (λ byte. byte ∷ []) (sym c.index.ensures) in (
      refl,
      ap Some (made ∙ sym record_here),
      λ i. record {
        first = 0;
        records = map (λ byte. byte ∷ []) letters;
        place = place + 1;
        faults = sym (used_at-sound (λ _. Sound) place refl) i;
      },
    )
