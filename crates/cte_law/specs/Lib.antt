pub mod QueryAnswers
