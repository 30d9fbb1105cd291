pub mod FirstWrong
