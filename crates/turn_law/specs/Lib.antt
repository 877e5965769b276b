pub mod TurnAnswers
