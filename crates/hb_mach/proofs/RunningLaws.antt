-- How the turns of a run make up the run.
use Rattle.std.proofs.Common.{◌≡◌, ℕ, zero, suc, ◌+◌, ◌<◌, ◌↔◌, List, [], ◌∷◌, ◌++◌, ◌-◌, Option, Some, None, IsSome, refl, ap, sym, ◌∙◌, subst, arith, append-nil}
use Rattle.std.proofs.lemmas.List.Concat.{flat_map-append}
use Rattle.hb_base.specs.declared.port.Port.{Port}
use Rattle.hb_base.specs.declared.script.ScriptLine.{ScriptLine}
use Rattle.hb_image.specs.declared.image.Image.{Image}
use Rattle.hb_base.specs.declared.step.Step.{Step}
use Rattle.hb_base.specs.declared.step.Step.TheVariants.{Going, Read, Wrote, Ended}
use Rattle.hb_base.specs.declared.step.Stop.{Stop}
use Rattle.hb_base.specs.declared.step.Stop.TheVariants.{Done, Halt, Stack, InputEnd, Steps, Illegal, Misaligned, Unmapped, Break, Sink}
use Rattle.hb_io.specs.Counts.{Rose}
use Rattle.hb_io.specs.Taken.{appended, TookFront}
use Rattle.hb_io.specs.TakenLaws.{appended-nothing, appended-appended}
use Rattle.hb_runs.specs.Stepping.{after, answers}
use Rattle.hb_script.specs.Lines.{line_of, lines_of}
use Rattle.hb_mach.specs.Run.{events, stop_of, mach, shown, steps_done}
use Rattle.hb_mach.specs.Running.{lines_shown, Ran, RanToLimit, RanToFault}
use Rattle.hb_mach.specs.Soundness.{IsOwnEnd}
use Rattle.hb_isa.specs.State.{State}
use Rattle.hb_mach.specs.State.{start}
use Rattle.hb_isa.specs.Table.{table, running}
use Rattle.hb_mach.specs.Turns.{TurnGoes, TurnEnds, TurnFails}
use Rattle.hb_isa.proofs.KeepsLaws.{keeps, ports-after}
use Rattle.hb_isa.proofs.RunLaws.{Turn, Quiet, Reads, Writes, Stops, Over, turns, after-suc, answers-suc, events-append}

-- ---- the lines of steps

line_of-event : (ports : List Port) (step : Step) → lines_of ports (events (step ∷ [])) ≡ line_of ports step
line_of-event ports Going = refl
line_of-event ports (Read port value) = append-nil _
line_of-event ports (Wrote port value) = append-nil _
line_of-event ports (Ended stop) = refl

pub lines_shown-suc : (s : State) (n : ℕ) → lines_shown s (suc n) ≡ lines_shown s n ++ line_of s.ports (table (after table n s)).1
unfolding lines_shown
lines_shown-suc s n =
    let step = (table (after table n s)).1 in
    ap (λ steps. lines_of s.ports (events steps)) (answers-suc n s)
    ∙ ap (lines_of s.ports) (events-append (answers table n s) (step ∷ []))
    ∙ flat_map-append (line_of s.ports) (events (answers table n s)) (events (step ∷ []))
    ∙ ap (λ line. lines_of s.ports (events (answers table n s)) ++ line) (line_of-event s.ports step)

-- ---- one turn

ended_by : (before now : Option Stop) (step : Step) → Turn before now step → (stop : Stop) → step ≡ Ended stop → IsSome now
ended_by _ _ _ Quiet stop e = cc
ended_by _ _ _ (Reads port value) stop e = cc
ended_by _ _ _ (Writes port value) stop e = cc
ended_by _ _ _ (Stops end) stop e = refl
ended_by _ _ _ (Over end) stop e = refl

pub turn_ends : (old new : State) (stop : Stop) (taken : Option (List ℕ)) (faults : ℕ) → (new, Ended stop) ≡ table old → TurnEnds old new taken taken faults faults
turn_ends old new stop taken faults e =
    let state : new ≡ (table old).0 = ap (λ (r : State × Step). r.0) e in
    let answer : (table old).1 ≡ Ended stop = sym (ap (λ (r : State × Step). r.1) e) in
    record { goes = record { state = state; line = sym (ap (λ (step : Step). appended taken (line_of old.ports step)) answer ∙ appended-nothing taken); faults = refl }; ended = rw state (ended_by _ _ _ (turns old) stop answer) }

pub turn_goes : (old new : State) (step : Step) (before now : Option (List ℕ)) (faults_before faults_now : ℕ) → (new, step) ≡ table old
    → now ≡ appended before (line_of new.ports step) → faults_now ≡ faults_before → TurnGoes old new before now faults_before faults_now
turn_goes old new step before now faults_before faults_now e line count =
    let state : new ≡ (table old).0 = ap (λ (r : State × Step). r.0) e in
    let answer : step ≡ (table old).1 = ap (λ (r : State × Step). r.1) e in
    let ports : new.ports ≡ old.ports = ap (λ (s : State). s.ports) state ∙ (keeps old).1 in
    let same : line_of new.ports step ≡ line_of old.ports (table old).1 = ap (λ (ps : List Port). line_of ps step) ports ∙ ap (line_of old.ports) answer in
    record { state = state; line = line ∙ ap (appended before) same; faults = count }

pub turn_fails : (old new : State) (step : Step) (before now : Option (List ℕ)) (faults_before faults_now : ℕ) → (new, step) ≡ table old
    → TookFront before (line_of new.ports step) now → Rose faults_before faults_now → TurnFails old new before now faults_before faults_now
turn_fails old new step before now faults_before faults_now e front rose =
    let state : new ≡ (table old).0 = ap (λ (r : State × Step). r.0) e in
    let answer : step ≡ (table old).1 = ap (λ (r : State × Step). r.1) e in
    let ports : new.ports ≡ old.ports = ap (λ (s : State). s.ports) state ∙ (keeps old).1 in
    let same : line_of new.ports step ≡ line_of old.ports (table old).1 = ap (λ (ps : List Port). line_of ps step) ports ∙ ap (line_of old.ports) answer in
    record { state = state; front = subst (λ (bytes : List ℕ). TookFront before bytes now) same front; fault = rose }

-- ---- many turns

pub ran_none : (s : State) (taken : Option (List ℕ)) (faults : ℕ) → Ran 0 s s taken taken faults faults
unfolding after lines_shown answers
ran_none s taken faults = record { state = refl; lines = sym (appended-nothing taken); faults = refl }

pub ran_more : (n : ℕ) (old mid new : State) (first before now : Option (List ℕ)) (faults_first faults_before faults_now : ℕ)
    → Ran n old mid first before faults_first faults_before → TurnGoes mid new before now faults_before faults_now
    → Ran (n + 1) old new first now faults_first faults_now
ran_more n old mid new first before now faults_first faults_before faults_now ran turn =
    let e : n + 1 ≡ suc n = omega arith in
    let state : new ≡ after table (suc n) old = turn.state ∙ ap (λ (s : State). (table s).0) ran.state ∙ sym (after-suc n old) in
    let ports : mid.ports ≡ old.ports = ap (λ (s : State). s.ports) ran.state ∙ ports-after n old in
    let step : (table mid).1 ≡ (table (after table n old)).1 = ap (λ (s : State). (table s).1) ran.state in
    let same : line_of mid.ports (table mid).1 ≡ line_of old.ports (table (after table n old)).1 = ap (λ (ps : List Port). line_of ps (table mid).1) ports ∙ ap (line_of old.ports) step in
    let line : now ≡ appended before (line_of old.ports (table (after table n old)).1) = turn.line ∙ ap (appended before) same in
    let lines : now ≡ appended first (lines_shown old (suc n)) =
    line ∙ ap (λ (taken : Option (List ℕ)). appended taken (line_of old.ports (table (after table n old)).1)) ran.lines
    ∙ appended-appended first (lines_shown old n) _
    ∙ ap (appended first) (sym (lines_shown-suc old n)) in
    rw e (record { state = state; lines = lines; faults = turn.faults ∙ ran.faults })

-- after an end there are no more lines, and the state stays
over-table : (s : State) (stop : Stop) → s.ended ≡ Some stop → table s ≡ (s, Ended stop)
unfolding table running
over-table s stop e = rw e refl

ran_over : (n m : ℕ) (old new : State) (before now : Option (List ℕ)) (faults_before faults_now : ℕ) (stop : Stop) → new.ended ≡ Some stop
    → Ran n old new before now faults_before faults_now → Ran (n + m) old new before now faults_before faults_now
ran_over n zero old new before now faults_before faults_now stop e ran = let same : n + zero ≡ n = omega arith in rw same ran
ran_over n (suc m) old new before now faults_before faults_now stop e ran =
    let still = over-table new stop e in
    let goes : TurnGoes new new now now faults_now faults_now =
    record { state = sym (ap (λ (r : State × Step). r.0) still); line = rw (still, appended-nothing) refl; faults = refl } in
    let same : n + suc m ≡ n + 1 + m = omega arith in
    rw same (ran_over (n + 1) m old new before now faults_before faults_now stop e
    (ran_more n old new new before now now faults_before faults_now faults_now ran goes))

some_stop : (o : Option Stop) → IsSome o → (stop : Stop) × (o ≡ Some stop)
some_stop None h = cc
some_stop (Some stop) h = (stop, refl)

pub ran_ends : (n limit : ℕ) (old mid new : State) (first before now : Option (List ℕ)) (faults_first faults_before faults_now : ℕ)
    → n < limit → Ran n old mid first before faults_first faults_before → TurnEnds mid new before now faults_before faults_now
    → Ran limit old new first now faults_first faults_now
ran_ends n limit old mid new first before now faults_first faults_before faults_now below ran turn =
    let end = some_stop new.ended turn.ended in
    let whole : n + 1 + (limit - (n + 1)) ≡ limit = omega arith in
    rw (← whole) (ran_over (n + 1) (limit - (n + 1)) old new first now faults_first faults_now end.0 end.1
    (ran_more n old mid new first before now faults_first faults_before faults_now ran turn.goes))

steps-going : (ended : Option Stop) → IsOwnEnd ended → (stop_of ended ≡ Steps) ↔ (ended ≡ None)
steps-going None own = (λ e. refl, λ e. refl)
steps-going (Some Done) own = (λ e. cc, λ e. cc)
steps-going (Some (Halt argument)) own = (λ e. cc, λ e. cc)
steps-going (Some Stack) own = (λ e. cc, λ e. cc)
steps-going (Some (InputEnd port)) own = (λ e. cc, λ e. cc)
steps-going (Some Steps) own = (λ e. cc, λ e. cc)
steps-going (Some Illegal) own = (λ e. cc, λ e. cc)
steps-going (Some Misaligned) own = (λ e. cc, λ e. cc)
steps-going (Some Unmapped) own = (λ e. cc, λ e. cc)
steps-going (Some Break) own = (λ e. cc, λ e. cc)
steps-going (Some Sink) own = (λ e. cc, λ e. cc)

no-sink : (ended : Option Stop) → IsOwnEnd ended → stop_of ended ≡ Sink → ⊥
no-sink None own e = cc
no-sink (Some Done) own e = cc
no-sink (Some (Halt argument)) own e = cc
no-sink (Some Stack) own e = cc
no-sink (Some (InputEnd port)) own e = cc
no-sink (Some Steps) own e = cc
no-sink (Some Illegal) own e = cc
no-sink (Some Misaligned) own e = cc
no-sink (Some Unmapped) own e = cc
no-sink (Some Break) own e = cc
no-sink (Some Sink) own e = cc

pub ran_to_limit : (limit : ℕ) (old new : State) (stop : Stop) (before now : Option (List ℕ)) (faults_before faults_now : ℕ)
    → Ran limit old new before now faults_before faults_now → stop ≡ stop_of new.ended → IsOwnEnd new.ended
    → RanToLimit limit old new stop before now faults_before faults_now
ran_to_limit limit old new stop before now faults_before faults_now ran answer own =
    record { ran = ran; answer = answer; steps = rw answer (steps-going new.ended own); no_sink = λ e. no-sink new.ended own (sym answer ∙ e) }

pub ran_fails : (n limit : ℕ) (old mid new : State) (first before now : Option (List ℕ)) (faults_first faults_before faults_now : ℕ)
    → n < limit → Ran n old mid first before faults_first faults_before → TurnFails mid new before now faults_before faults_now
    → RanToFault limit old new Sink first now faults_first faults_now
ran_fails n limit old mid new first before now faults_first faults_before faults_now below ran turn =
    let state : new ≡ after table (suc n) old = turn.state ∙ ap (λ (s : State). (table s).0) ran.state ∙ sym (after-suc n old) in
    let ports : mid.ports ≡ old.ports = ap (λ (s : State). s.ports) ran.state ∙ ports-after n old in
    let step : (table mid).1 ≡ (table (after table n old)).1 = ap (λ (s : State). (table s).1) ran.state in
    let same : line_of mid.ports (table mid).1 ≡ line_of old.ports (table (after table n old)).1 = ap (λ (ps : List Port). line_of ps (table mid).1) ports ∙ ap (line_of old.ports) step in
    record {
      steps = n;
      within = below;
      state = state;
      answer = refl;
      front = subst (λ (taken : Option (List ℕ)). TookFront taken (line_of old.ports (table (after table n old)).1) now) ran.lines
          (subst (λ (bytes : List ℕ). TookFront before bytes now) same turn.front);
      fault = subst (λ (count : ℕ). Rose count faults_now) ran.faults turn.fault;
    }

-- a whole run from the start, in the words of `mach`
pub ran-lines : (image : Image) (lines : List ScriptLine) (limit : ℕ) → lines_shown (start image lines) limit ≡ lines_of image.ports (mach image lines limit).trace
unfolding lines_shown mach shown start
ran-lines image lines limit = refl

pub ran-stop : (image : Image) (lines : List ScriptLine) (limit : ℕ) (new : State) (stop : Stop) (before now : Option (List ℕ)) (faults_before faults_now : ℕ)
    → RanToLimit limit (start image lines) new stop before now faults_before faults_now → stop ≡ stop_of (mach image lines limit).end
unfolding mach shown
ran-stop image lines limit new stop before now faults_before faults_now ran =
    ran.answer ∙ ap (λ (s : State). stop_of s.ended) ran.ran.state

pub ran-done : (image : Image) (lines : List ScriptLine) (limit : ℕ) (new : State) (stop : Stop) (before now : Option (List ℕ)) (faults_before faults_now : ℕ)
    → RanToLimit limit (start image lines) new stop before now faults_before faults_now → new.done ≡ steps_done image lines limit
unfolding steps_done
ran-done image lines limit new stop before now faults_before faults_now ran = ap (λ (s : State). s.done) ran.ran.state
