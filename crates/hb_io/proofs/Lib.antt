pub mod FakeShelfLemmas
pub mod StoredFilesLemmas
