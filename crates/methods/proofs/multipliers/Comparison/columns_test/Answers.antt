use Rattle.std.proofs.Common.{ap, ◌∙◌}
use Rattle.rows.specs.declared.fault.FaultKind.TheVariants.{ColumnDiffers}
use Rattle.rows.specs.Faults.{unless_found}
use Rattle.rows.specs.Limits.{columns}
use Rattle.rows.proofs.First.{is_first, found_first}
use Rattle.methods.specs.Sums.{differs}
use Rattle.methods.proofs.multipliers.Comparison.columns_test.Goals as goal

pub returns : goal.returns
returns c =
    let test = differs c.args.self.now.weighted.facts.now c.args.self.now.goal.now c.args.self.now.weighted.certificate.now in
    c.none_differs.ensures ∙ ap (unless_found ColumnDiffers) (is_first test columns _ (found_first test columns _ c.first_differing.ensures.found))
