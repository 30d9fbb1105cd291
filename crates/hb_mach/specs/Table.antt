-- The table of the machine is that of RV32I.
pub use Rattle.hb_isa.specs.Table.{table}
