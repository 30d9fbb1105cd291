-- No step changes code or ports.
pub use Rattle.hb_isa.proofs.KeepsLaws.{keeps, code-after, ports-after}
