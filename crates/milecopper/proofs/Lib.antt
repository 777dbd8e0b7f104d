pub mod Answers
pub mod TariffAnswers
