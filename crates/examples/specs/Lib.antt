pub mod MethodExamples
pub mod ReaderExamples
pub mod WorkedExamples
