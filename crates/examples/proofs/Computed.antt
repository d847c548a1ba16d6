-- The worked examples, proved by computing them.
use Rattle.std.proofs.Common.{refl}
use Rattle.rows.specs.Shapes.{first_beyond}
use Rattle.methods.specs.Cuts.{cut_tests, cut_own}
use Rattle.methods.specs.Layers.{layered}
use Rattle.methods.specs.LooksUp.{search_says}
use Rattle.methods.specs.Openings.{opening, opened}
use Rattle.methods.specs.Splits.{split_tests, split_own}
use Rattle.methods.specs.Sums.{sums_say}
use Rattle.formats.proofs.SamplesRead.{table_read, witness_read}
use Rattle.examples.specs.MethodExamples.{MethodExamples}
use Rattle.examples.specs.WorkedExamples.{WorkedExamples}

method_examples : MethodExamples
unfolding first_beyond cut_tests cut_own layered search_says opening opened split_tests split_own sums_say
method_examples =
    record {
      not_by_multipliers = refl;
      by_cut = refl;
      rounded_down_lem = refl;
      no_further = refl;
      most_facts_lem = refl;
      too_many_facts = refl;
      greatest_number = refl;
      number_too_great = refl;
      least_number = refl;
      number_too_small = refl;
      greatest_bound = refl;
      bound_too_great = refl;
      climbed = refl;
      deepest = refl;
      beyond_the_sheet = refl;
    }

pub worked_examples : WorkedExamples
worked_examples = record { methods = method_examples; readers = record { sample_table_lem = table_read; sample_witness_lem = witness_read } }
