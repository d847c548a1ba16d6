use Rattle.std.proofs.Common.{◌≡◌, ℕ, ◌+◌, ◌≤◌, length, sym, ap, ◌∙◌, subst, rules}
use Rattle.std.proofs.lemmas.Bool.{leb-true}
use Rattle.std.proofs.lemmas.Result.{err_from_is_err_and}
use Rattle.rows.proofs.Chains.{check_true}
use Rattle.methods.specs.Splits.{first_from, second_from}
use Rattle.methods.proofs.SplitAnswers.{row_short, row_made}
use Rattle.methods.proofs.split.split_row.Goals as goal

pub returns-in_err-check : goal.returns-in_err-check
returns-in_err-check c =
    let e : first_from + c.from-length.result ≡ second_from c.args.certificate.now = ap (λ (n : ℕ). first_from + n) (c.from-length.ensures ∙ c.word_at.ensures) in
    let p = err_from_is_err_and c.from_residual.result c.from_residual.ensures.1 in
    rw (p.1, p.2) (row_short c.args.certificate.now _ _ e (search rules))

pub returns : goal.returns
returns c =
    let e : first_from + c.from-length.result ≡ second_from c.args.certificate.now = ap (λ (n : ℕ). first_from + n) (c.from-length.ensures ∙ c.word_at.ensures) in
    let l = leb-true _ _ (check_true _ _ (sym c.in_ok-check.ensures)) in
    row_made c.args.certificate.now c.split_numbers.result c.new.result c.map_err.result (subst (λ (n : ℕ). n ≤ length c.args.certificate.now) e l) c.split_numbers.ensures c.new.ensures (search rules)
