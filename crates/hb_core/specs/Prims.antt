-- The primitives, in the order of their numbers.
use Rattle.std.specs.Prelude.{List, [], ◌∷◌}

pub data Prim : Type 0 where
  AddU : Prim
  SubU : Prim
  MulU : Prim
  AndU : Prim
  OrU : Prim
  XorU : Prim
  NotU : Prim
  ShlU : Prim
  ShrU : Prim
  DivU : Prim
  RemU : Prim
  EqU : Prim
  LtU : Prim
  LtS : Prim
  ToSigned : Prim
  FromSigned : Prim
  NonZero : Prim
  FromNonZero : Prim
  FromBit : Prim
  ToBit : Prim
  JoinBits : Prim
  HighBits : Prim
  LowBits : Prim
  BitsOf : Prim
  OfBits : Prim
  FromIx : Prim
  ToIx : Prim
  FirstIx : Prim
  LastIx : Prim
  IncIx : Prim
  DecIx : Prim
  ElemRef : Prim
  ReadRef : Prim
  WriteRef : Prim
  ReadPort : Prim
  WritePort : Prim
  Return : Prim
  Halt : Prim

abbrev pub primitives : List Prim
primitives =
    AddU ∷ SubU ∷ MulU ∷ AndU ∷ OrU ∷ XorU ∷ NotU ∷ ShlU ∷ ShrU ∷ DivU ∷ RemU ∷ EqU ∷ LtU ∷ LtS ∷ ToSigned ∷ FromSigned ∷ NonZero
    ∷ FromNonZero ∷ FromBit ∷ ToBit ∷ JoinBits ∷ HighBits ∷ LowBits ∷ BitsOf ∷ OfBits ∷ FromIx ∷ ToIx ∷ FirstIx ∷ LastIx ∷ IncIx
    ∷ DecIx ∷ ElemRef ∷ ReadRef ∷ WriteRef ∷ ReadPort ∷ WritePort ∷ Return ∷ Halt ∷ []
