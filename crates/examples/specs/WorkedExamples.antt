-- All worked examples in one statement, a field for each part of the product.
use Rattle.examples.specs.MethodExamples.{MethodExamples}
use Rattle.examples.specs.ReaderExamples.{ReaderExamples}

pub record WorkedExamples : Type 0 where
  -- questions to proof methods
  pub methods : MethodExamples
  -- reading tables and witnesses
  pub readers : ReaderExamples
