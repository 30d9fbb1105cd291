-- What it means for the machine's steps that some of them lead through a routine.
use Rattle.std.proofs.Common.{◌≡◌, ℕ, List, [], Option, Some, None, refl, ap, ◌∙◌, subst}
use Rattle.std.specs.Prelude.{All, slice_get}
use Rattle.std.proofs.lemmas.Option.{get_or_from_slice_get, slice_get_within}
use Rattle.hb_asm.specs.declared.instr.Instr.{Instr}
use Rattle.hb_asm.specs.declared.instr.Instr.TheVariants.{Lui, Auipc, Jal, Jalr, Branch, Load, Store, OpImm, Op, Fence, Ecall, Ebreak}
use Rattle.hb_base.specs.declared.step.Stop.{Stop}
use Rattle.hb_isa.specs.State.{State}
use Rattle.hb_isa.specs.Table.{table}
use Rattle.hb_isa.specs.Touches.{touches, touched, access_at, access_of}
use Rattle.hb_isa.specs.Run.{turn}
use Rattle.hb_isa.proofs.TurnLaws.{reached-after}
use Rattle.hb_runs.specs.Stepping.{after}
use Rattle.hb_runs.specs.Simulation.{Walk}
use Rattle.hb_runs.proofs.Walks.{weakened}
use Rattle.hb_rt.specs.Routine.{Leads, StandsIn, IsComputing}

-- the state after so many steps is the one to which they lead
pub after-Leads : (routine : List Instr) (from n : ℕ) (s t : State) → Leads routine from n s t → after table n s ≡ t
after-Leads routine from n s t leads = reached-after n s t leads.arrives

All-slice_get : {X : Type 0} (P : X → Type 0) (xs : List X) (k : ℕ) (x : X) → All P xs → slice_get xs k ≡ Some x → P x
All-slice_get P xs k x all e = subst P (get_or_from_slice_get xs k x x e) (all k x (slice_get_within xs k x e))

-- an instruction that computes accesses no memory
computing-touches : (instr : Instr) (s : State) → IsComputing instr → access_of instr s ≡ None
unfolding access_of
computing-touches (Branch op rs1 rs2 imm) s is = refl
computing-touches (OpImm op rd rs1 imm) s is = refl
computing-touches (Op op rd rs1 rs2) s is = refl
computing-touches (Lui rd imm) s is = refl
computing-touches (Auipc rd imm) s is = refl
computing-touches (Jal rd imm) s is = refl
computing-touches (Jalr rd rs1 imm) s is = refl
computing-touches (Load op rd rs1 imm) s is = absurd is
computing-touches (Store op rs1 rs2 imm) s is = absurd is
computing-touches (Fence high rd) s is = refl
computing-touches Ecall s is = refl
computing-touches Ebreak s is = refl

stands-touches : (routine : List Instr) (from : ℕ) (u : State) → All IsComputing routine → StandsIn routine from u → touched None u ≡ None
unfolding touched access_at
stands-touches routine from u all stands =
    ap (λ fetch. access_at fetch u) stands.fetched ∙ computing-touches stands.instr u (All-slice_get IsComputing routine stands.place stands.instr all stands.there)

touched-none : (ended : Option Stop) (u : State) → touched None u ≡ None → touched ended u ≡ None
unfolding touched
touched-none None u e = e
touched-none (Some stop) u e = refl

-- none of the steps accesses memory
pub touches-Leads : (routine : List Instr) (from n : ℕ) (s t : State) → All IsComputing routine → Leads routine from n s t → Walk turn (λ u. touches u ≡ None) n [] s t
unfolding touches
touches-Leads routine from n s t all leads =
    weakened turn (StandsIn routine from) (λ u. touches u ≡ None) n [] s t (λ u stands. touched-none u.ended u (stands-touches routine from u all stands)) leads
