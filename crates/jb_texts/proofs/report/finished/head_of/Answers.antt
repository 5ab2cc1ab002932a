use Rattle.std.proofs.Common.{rules, ◌≡◌, [], ◌∷◌, ◌++◌, codes, ◌∙◌}
use Rattle.json.specs.Token.{begin_object, key, string}
use Rattle.json.specs.Print.{print}
use Rattle.jb_texts.specs.Statuses.{status_name}
use Rattle.jb_texts.proofs.Tokens.{head-print}
use Rattle.jb_texts.proofs.report.finished.head_of.Goals as goal

pub returns : goal.returns
returns c =
    let tokens : c.key-3.new.self.tokens ≡ begin_object ∷ key (codes "job") ∷ string c.args.job.now ∷ key (codes "status") ∷ string (status_name c.args.status) ∷ key (codes "steps") ∷ [] = search rules in
    let before : c.key-3.new.self.before ≡ [] = search rules in
    c.into_inner.ensures.items ∙ (λ i. before i ++ print (tokens i)) ∙ head-print c.args.job.now c.args.status
