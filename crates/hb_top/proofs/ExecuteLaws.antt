-- The lines that a run put and the end line after them are the text of the run.
use Rattle.std.proofs.Common.{◌≡◌, ℕ, suc, ◌+◌, ◌-◌, ◌<◌, List, [], ◌∷◌, ◌++◌, Option, ◌⊎◌, inl, inr, sym, ap, subst, ◌∙◌, refl, arith, append_assoc}
use Rattle.hb_base.specs.declared.step.Step.{Step}
use Rattle.hb_base.specs.declared.step.Stop.{Stop}
use Rattle.hb_base.specs.declared.step.Stop.TheVariants.{Sink}
use Rattle.hb_base.specs.declared.port.Port.{Port}
use Rattle.hb_io.specs.Counts.{Rose}
use Rattle.hb_io.specs.Taken.{appended, TookFront}
use Rattle.hb_io.specs.TakenLaws.{appended-appended, took_after, took_of_more}
use Rattle.hb_runs.specs.Stepping.{after, answers}
use Rattle.hb_runs.proofs.Stepping.{answers-add}
use Rattle.hb_script.specs.Ends.{end_of}
use Rattle.hb_script.specs.Lines.{lines_of, line_of}
use Rattle.hb_mach.specs.State.{State}
use Rattle.hb_mach.specs.Table.{table}
use Rattle.hb_mach.specs.Run.{events, shown, stop_of}
use Rattle.hb_mach.specs.Running.{lines_shown, RanToLimit, RanToFault}
use Rattle.hb_mach.proofs.KeepsLaws.{ports-after}
use Rattle.hb_mach.proofs.RunLaws.{events-append}
use Rattle.hb_mach.proofs.RunningLaws.{lines_shown-suc}
use Rattle.hb_top.specs.Texts.{text_from, stop_after, status_of}
use Rattle.hb_top.specs.World.{printed}
use Rattle.hb_top.specs.Executing.{TellsRun, whole_run, cut_run}

-- the text is the lines of the run and then its end
text_is : (s : State) (limit : ℕ) → text_from s limit ≡ lines_shown s limit ++ end_of s.ports (stop_after s limit) (after table limit s).done
unfolding text_from lines_shown shown
text_is s limit = refl

ended_is : (s : State) (limit : ℕ) → stop_after s limit ≡ stop_of (after table limit s).ended
unfolding shown
ended_is s limit = refl

-- how the machine says that it ended is how it ended
pub stop_is : (limit : ℕ) (old new : State) (stop : Stop) (before now : Option (List ℕ)) (f f' : ℕ) → RanToLimit limit old new stop before now f f' → stop ≡ stop_after old limit
stop_is limit old new stop before now f f' r = r.answer ∙ ap (λ s. stop_of s.ended) r.ran.state ∙ sym (ended_is old limit)

-- the end line that is put is the one of the text
end_is : (limit : ℕ) (old new : State) (stop : Stop) (before now : Option (List ℕ)) (f f' : ℕ) → RanToLimit limit old new stop before now f f' → (ports : List Port) (done : ℕ) → ports ≡ new.ports → done ≡ new.done
    → end_of ports stop done ≡ end_of old.ports (stop_after old limit) (after table limit old).done
end_is limit old new stop before now f f' r ports done ep ed =
    let e1 : ports ≡ old.ports = ep ∙ ap (λ s. s.ports) r.ran.state ∙ ports-after limit old in
    let e2 : done ≡ (after table limit old).done = ed ∙ ap (λ s. s.done) r.ran.state in
    ap (λ p. end_of p stop done) e1 ∙ ap (λ t. end_of old.ports t done) (stop_is limit old new stop before now f f' r) ∙ ap (end_of old.ports (stop_after old limit)) e2

-- all lines were put, and then the end line
pub told_whole : (limit : ℕ) (old new : State) (stop : Stop) (before now last : Option (List ℕ)) (f f' f'' status : ℕ) (ports : List Port) (done : ℕ) (text : List ℕ) → RanToLimit limit old new stop before now f f' → ports ≡ new.ports → done ≡ new.done
    → text ≡ end_of ports stop done → last ≡ appended now text → f'' ≡ f' → status ≡ status_of stop → TellsRun old limit (printed before f) (printed last f'') status
told_whole limit old new stop before now last f f' f'' status ports done text r ep ed et el ef es =
    whole_run
    (record {
      taken =
          el ∙ ap (λ t. appended t text) r.ran.lines ∙ appended-appended before (lines_shown old limit) text
          ∙ ap (λ t. appended before (lines_shown old limit ++ t)) (et ∙ end_is limit old new stop before now f f' r ports done ep ed) ∙ ap (appended before) (sym (text_is old limit));
      no_fault = ef ∙ r.ran.faults;
    })
    (λ e. r.no_sink (stop_is limit old new stop before now f f' r ∙ e))
    (es ∙ ap status_of (stop_is limit old new stop before now f f' r))

-- all lines were put, and a front of the end line
pub told_end_cut : (limit : ℕ) (old new : State) (stop : Stop) (before now last : Option (List ℕ)) (f f' f'' : ℕ) (ports : List Port) (done : ℕ) (text : List ℕ) → RanToLimit limit old new stop before now f f' → ports ≡ new.ports → done ≡ new.done
    → text ≡ end_of ports stop done → TookFront now text last → Rose f' f'' → TellsRun old limit (printed before f) (printed last f'') 5
told_end_cut limit old new stop before now last f f' f'' ports done text r ep ed et front rose =
    let end = end_of old.ports (stop_after old limit) (after table limit old).done in
    let same : text ≡ end = et ∙ end_is limit old new stop before now f f' r ports done ep ed in
    let moved : TookFront (appended before (lines_shown old limit)) end last = subst (λ t. TookFront t end last) r.ran.lines (subst (λ t. TookFront now t last) same front) in
    cut_run
    (record {
      front = subst (λ t. TookFront before t last) (sym (text_is old limit)) (took_after before (lines_shown old limit) end last moved);
      fault = subst (λ n. Rose n f'') r.ran.faults rose;
    })
    refl

lines-append : (ports : List Port) (xs ys : List Step) → lines_of ports (xs ++ ys) ≡ lines_of ports xs ++ lines_of ports ys
lines-append ports [] ys = refl
lines-append ports (x ∷ xs) ys = ap (λ t. line_of ports x ++ t) (lines-append ports xs ys) ∙ sym (append_assoc (line_of ports x) (lines_of ports xs) (lines_of ports ys))

-- the lines of more steps begin with those of fewer
lines_more : (s : State) (m n : ℕ) → lines_shown s (m + n) ≡ lines_shown s m ++ lines_of s.ports (events (answers table n (after table m s)))
unfolding lines_shown
lines_more s m n = ap (λ t. lines_of s.ports (events t)) (answers-add table m n s) ∙ ap (lines_of s.ports) (events-append (answers table m s) (answers table n (after table m s))) ∙ lines-append s.ports (events (answers table m s)) _

text_begins : (s : State) (steps limit : ℕ) → steps < limit → (rest : List ℕ) × (text_from s limit ≡ (lines_shown s steps ++ line_of s.ports (table (after table steps s)).1) ++ rest)
text_begins s steps limit below =
    let n = limit - suc steps in
    let split : limit ≡ suc steps + n = omega arith in
    let more = lines_of s.ports (events (answers table n (after table (suc steps) s))) in
    let end = end_of s.ports (stop_after s limit) (after table limit s).done in (
      more ++ end,
      text_is s limit ∙ ap (λ t. t ++ end) (ap (lines_shown s) split ∙ lines_more s (suc steps) n ∙ ap (λ t. t ++ more) (lines_shown-suc s steps)) ∙ append_assoc _ more end,
    )

-- a line of the run could not be put
pub told_line_cut : (limit : ℕ) (old new : State) (stop : Stop) (before now : Option (List ℕ)) (f f' : ℕ) → RanToFault limit old new stop before now f f' → TellsRun old limit (printed before f) (printed now f') 5
told_line_cut limit old new stop before now f f' r =
    let line = line_of old.ports (table (after table r.steps old)).1 in
    let lines = lines_shown old r.steps in
    let begins = text_begins old r.steps limit r.within in
    cut_run
    (record {
      front = subst (λ t. TookFront before t now) (sym begins.1) (took_of_more before (lines ++ line) begins.0 now (took_after before lines line now r.front));
      fault = r.fault;
    })
    refl

pub fault_of : (limit : ℕ) (old new : State) (stop : Stop) (before now : Option (List ℕ)) (f f' : ℕ) → RanToLimit limit old new stop before now f f' ⊎ RanToFault limit old new stop before now f f' → stop ≡ Sink → RanToFault limit old new stop before now f f'
fault_of limit old new stop before now f f' (inl r) e = absurd (r.no_sink e)
fault_of limit old new stop before now f f' (inr r) e = r

pub limit_of : (limit : ℕ) (old new : State) (stop : Stop) (before now : Option (List ℕ)) (f f' : ℕ) → RanToLimit limit old new stop before now f f' ⊎ RanToFault limit old new stop before now f f' → (stop ≡ Sink → ⊥) → RanToLimit limit old new stop before now f f'
limit_of limit old new stop before now f f' (inl r) other = r
limit_of limit old new stop before now f f' (inr r) other = absurd (other r.answer)
