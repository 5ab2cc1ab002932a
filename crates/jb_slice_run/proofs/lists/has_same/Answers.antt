use Rattle.std.proofs.{Common.{arith, ◌≡◌, List, ℕ, get_or, sym, ap, ◌∙◌}, lemmas.Bool.{MatchBool-at_true, MatchBool-at_false}}
use Rattle.jb_slices.specs.Checkpoint.{Header}
use Rattle.jb_slice_run.{specs.Refusals.{HaveSame, list_of}, specs.Strings.{IsHeaderSmall, header_lists}, specs.declared.lists.HeaderPart.{HeaderPart}, proofs.Once.{classes_once, number_once}}
use Rattle.jb_slice_run.proofs.lists.has_same.Goals as goal

once : (part : HeaderPart) (o h : Header) → IsHeaderSmall o → IsHeaderSmall h → list_of part o ≡ list_of part h → HaveSame part o h
once part o h low small e = grind (arith, number_once, classes_once)

same : (part : HeaderPart) (o h : Header) → HaveSame part o h → list_of part o ≡ list_of part h
same part o h e = grind arith

pub returns : goal.returns
returns c =
    let at = c.place_of-place.ensures.at in
    let first = λ (o : Header) (own : c.args.own.now ≡ header_lists o). c.index.ensures ∙ ap (λ (l : List (List (List ℕ))). get_or l c.place_of-place.result c.index.result.now) (c.own.view_is ∙ own) ∙ at o c.index.result.now in
    let second = λ (h : Header) (held : c.args.held.now ≡ header_lists h). c.index-2.ensures ∙ ap (λ (l : List (List (List ℕ))). get_or l c.place_of-place.result c.index-2.result.now) (c.held.view_is ∙ held) ∙ at h c.index-2.result.now in
    record {
      same = λ is o h own held so sh. once c.args.part o h so sh (sym (first o own) ∙ MatchBool-at_true _ _ is c.is_same.ensures ∙ second h held);
      other = λ is o h own held e. MatchBool-at_false _ _ is c.is_same.ensures (first o own ∙ same c.args.part o h e ∙ sym (second h held));
    }
