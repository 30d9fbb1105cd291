-- Kinds, as contracts see them.

pub data Kind : Type 0 where
  Star : Kind
  Nat : Kind
  Area : Kind
  Arrow : Kind → Kind → Kind
