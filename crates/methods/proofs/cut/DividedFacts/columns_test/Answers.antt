use Rattle.std.proofs.Common.{ap, ◌∙◌}
use Rattle.rows.specs.declared.fault.FaultKind.TheVariants.{ColumnDiffers}
use Rattle.rows.specs.Faults.{unless_found}
use Rattle.rows.specs.Limits.{columns}
use Rattle.rows.proofs.First.{is_first, found_first}
use Rattle.methods.specs.Cuts.{indivisible}
use Rattle.methods.proofs.cut.DividedFacts.columns_test.Goals as goal

pub returns : goal.returns
returns c =
    let test = indivisible c.args.self.now.weighted.facts.now c.args.self.now.weighted.certificate.now in
    c.none_differs.ensures ∙ ap (unless_found ColumnDiffers) (is_first test columns _ (found_first test columns _ c.first_indivisible.ensures.found))
