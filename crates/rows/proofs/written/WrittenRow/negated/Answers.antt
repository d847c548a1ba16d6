use Rattle.std.proofs.Common.{◌≡◌, ◌<◌, length, pos, neg_ℤ, subst, lit<, rules}
use Rattle.rows.specs.declared.limits.Limit.TheVariants.{WrittenNumber}
use Rattle.rows.specs.Limits.{columns, magnitude_of}
use Rattle.rows.proofs.ArrayMaps.{asked_each, mapped}
use Rattle.rows.proofs.Bounds.{bounded}
use Rattle.rows.proofs.Items.{column_within}
use Rattle.rows.proofs.written.WrittenRow.negated.Goals as goal

pub map-requires : goal.map-requires
map-requires c =
    let row = c.args.self.now.numbers in
    let n : length row.coefficients ≡ columns = search rules in (
      lit< tt,
      (
        lit< tt,
        (
          lit< tt,
          asked_each _ _ row.coefficients _ (pos 0) (λ q k l.
              let b = bounded (magnitude_of WrittenNumber) _ (column_within (magnitude_of WrittenNumber) row c.args.self.now.held k (subst (λ j. k < j) n l)) in
              (b.low, b.high)),
        ),
      ),
    )

pub returns : goal.returns
returns c =
    let cs = c.args.self.now.numbers.coefficients in
    let n : length cs ≡ columns = search rules in
    mapped _ _ neg_ℤ cs c.map.result columns (pos 0) n c.map.ensures.items (λ p q k y l e. search rules)
