-- The readers of patterns are exact.
use Rattle.std.proofs.Common.{◌≡◌, ◌≢◌, ℕ, ◌+◌, List, [], ◌∷◌, ◌++◌, Option, Some, None, refl, sym, ap, subst, ◌∙◌}
use Rattle.hb_base.specs.declared.name.Name.{Name}
use Rattle.hb_base.specs.declared.place.Place.{Place}
use Rattle.hb_tokens.specs.declared.token.Token.{Token}
use Rattle.hb_grammar.specs.Patterns.{ReadsPat, ReadsApats, no_apat, ReadsApat, any, field_last, field_alone}
use Rattle.hb_read_patterns.specs.declared.node.PatNode.{PatNode}
use Rattle.hb_read_patterns.specs.declared.node.PatNode.TheVariants as node
use Rattle.hb_read_patterns.specs.declared.head.Head.{Head}
use Rattle.hb_read_patterns.specs.declared.head.Head.TheVariants.{Whole, Single, Applied, Many}
use Rattle.hb_read_patterns.specs.declared.frame.Frame.{Frame}
use Rattle.hb_read_patterns.specs.declared.frame.Frame.TheVariants.{First, Second, Given}
use Rattle.hb_read_patterns.specs.declared.reader.Last.{Last}
use Rattle.hb_read_patterns.specs.declared.reader.Last.TheVariants.{Wanted, Opened, Named, Done, Bracketed, Parted, Chosen}
use Rattle.hb_read_patterns.specs.declared.reader.PatReader.{PatReader}
use Rattle.std.specs.Prelude.{if◌then◌else◌}
use Rattle.hb_stack.specs.Stacks.{is_empty}
use Rattle.hb_read_patterns.specs.Heads.{end_head, named_head, named_nodes}
use Rattle.hb_read_patterns.specs.Moves.{moved, done, done_last}
use Rattle.hb_read_patterns.proofs.Residuals.{repeats, After, simple, Listed, listed, no_field, plain, first_close, second_close, given_last, empty, alone, Closing, RestLast, Rest, Leads}
use Rattle.hb_base.specs.Fixed.{wildcard}
use Rattle.hb_tokens.specs.declared.token.TokenKind.TheVariants as kinds
use Rattle.hb_grammar.specs.Reading.{Reader, Runs, stop, take}
use Rattle.hb_read_patterns.specs.Moves.{pat_start, apat_start, apats_start}
use Rattle.hb_read_patterns.specs.Exactly.{PatOf, ApatOf, ApatsOf, PatReaderIsExact, ApatReaderIsExact, ApatsReaderIsExact}
use Rattle.hb_read_patterns.proofs.Puts.{put_pat_is, put_row_is}
use Rattle.hb_read_patterns.proofs.Back.{to_come_pat, Come, pat_to_come, back}
use Rattle.hb_read_patterns.proofs.Forth.{Outcome, stops, goes, forth}

-- the one machine, with any start
abbrev machine : PatReader → Reader PatReader (List PatNode)
machine start = record { start = start; move = moved; done = done }

ends : (nodes : List PatNode) (us : List Token) (head : Head) (out : List PatNode) → end_head head out ≡ nodes → After (Closing nodes us []) head out us
ends nodes us Whole out e = (e, refl)
ends nodes us Single out e = (e, refl)
ends nodes us (Applied place c count) out e = repeats no_apat (e, refl)
ends nodes us (Many count) out e = repeats no_apat (e, refl)

some_is : (a b : List PatNode) → Path (Option (List PatNode)) (Some a) (Some b) → a ≡ b
some_is a b e = cc

none_is : (b : List PatNode) → Path (Option (List PatNode)) None (Some b) → ⊥
none_is b e = cc

last_done : (nodes : List PatNode) (us : List Token) (last : Last) (frames : List Frame) (head : Head) (out : List PatNode) → (if is_empty frames then done_last last head out else None) ≡ Some nodes → RestLast last (Closing nodes us frames) head out us
last_done nodes us (Named place c) [] head out e = plain (ends nodes us (named_head head place c) (named_nodes head place c out) (some_is _ _ e))
last_done nodes us Done [] head out e = ends nodes us head out (some_is _ _ e)
last_done nodes us last [] head out e = absurd (none_is nodes e)
last_done nodes us last (frame ∷ frames) head out e = absurd (none_is nodes e)

done_rest : (reader : PatReader) (nodes : List PatNode) (us : List Token) → done reader ≡ Some nodes → Rest nodes us reader us
unfolding done
done_rest reader nodes us e = last_done nodes us reader.last reader.frames reader.head reader.nodes e

-- what a run takes completes the reader
pub runs_rest : (start : PatReader) (reader : PatReader) (ts us : List Token) (nodes : List PatNode) → Runs (machine start) reader ts nodes us → Rest nodes us reader ts
runs_rest start reader ts us nodes (stop e) = done_rest reader nodes us e
runs_rest start reader ts us nodes (take {r = next} {t = t} {ts = rest} e run) = back nodes us reader next t rest e (runs_rest start next rest us nodes run)

by_outcome : (start : PatReader) (nodes : List PatNode) (us : List Token) (reader : PatReader) (ts : List Token) → ((next : PatReader) (t : Token) (rest : List Token) → ts ≡ t ∷ rest → moved reader t ≡ Some next → Rest nodes us next rest → Runs (machine start) next rest nodes us) → Outcome nodes us reader ts → Runs (machine start) reader ts nodes us
by_outcome start nodes us reader ts f (stops e l) = subst (λ vs. Runs (machine start) reader ts nodes vs) l (stop e)
by_outcome start nodes us reader [] f (goes k) = absurd k
by_outcome start nodes us reader (t ∷ rest) f (goes k) = by_move (moved reader t) refl k where
  by_move : (o : Option PatReader) → moved reader t ≡ o → Leads nodes us o rest → Runs (machine start) reader (t ∷ rest) nodes us
  by_move None e k = absurd k
  by_move (Some next) e k = take e (f next t rest refl e k)

-- what completes the reader is a run
pub rest_runs : (start : PatReader) (nodes : List PatNode) (us : List Token) (ts : List Token) (reader : PatReader) → Rest nodes us reader ts → Runs (machine start) reader ts nodes us
rest_runs start nodes us [] reader k = by_outcome start nodes us reader [] (λ next t rest e m l. cc) (forth nodes us reader [] k)
rest_runs start nodes us (t ∷ ts) reader k =
    by_outcome start nodes us reader (t ∷ ts)
    (λ next t' rest e m l. let same : ts ≡ rest = cc in subst (λ vs. Runs (machine start) next vs nodes us) same (rest_runs start nodes us ts next (subst (λ vs. Rest nodes us next vs) (sym same) l)))
    (forth nodes us reader (t ∷ ts) k)

-- some tokens complete this
record Completed (frames : List Frame) (P : (List PatNode → List Token → Type 0) → List Token → Type 0) : Type 0 where
  pub ts : List Token
  pub nodes : List PatNode
  pub rest : P (Closing nodes [] frames) ts

somewhere : Place
somewhere = record { line = 0; col = 0 }

abbrev round : Token
round = record { place = record { line = 0; col = 0 }; kind = kinds.Mark 41 }

abbrev brackets : Token
brackets = record { place = record { line = 0; col = 0 }; kind = kinds.Mark 93 }

abbrev any_value : Token
any_value = record { place = record { line = 0; col = 0 }; kind = kinds.VarId wildcard }

abbrev some_name : Name
some_name = record { 0 = 0 }

abbrev a_field : Token
a_field = record { place = record { line = 0; col = 0 }; kind = kinds.VarId some_name }

name_differs : some_name ≢ wildcard
name_differs e = let f : Path ℕ 0 70 = ap (λ (n : Name). n.0) e in cc

after : (head : Head) (frames : List Frame) → ((out : List PatNode) → Completed frames (λ K ts. K out ts)) → (out : List PatNode) → Completed frames (λ K ts. After K head out ts)
after Whole frames f out = f out
after Single frames f out = f out
after (Applied place c count) frames f out = let k = f (out ++ node.Con place c count ∷ []) in record { ts = k.ts; nodes = k.nodes; rest = repeats no_apat k.rest }
after (Many count) frames f out = let k = f (out ++ node.Row count ∷ []) in record { ts = k.ts; nodes = k.nodes; rest = repeats no_apat k.rest }

-- each bracket by what closes it
closes : (frames : List Frame) (out : List PatNode) → Completed frames (λ K ts. K out ts)
closes [] out = record { ts = []; nodes = out; rest = (refl, refl) }
closes (First head place ∷ frames) out =
    let c = after head frames (λ (more : List PatNode). closes frames more) out in record { ts = round ∷ c.ts; nodes = c.nodes; rest = first_close refl c.rest }
closes (Second head place ∷ frames) out =
    let c = after head frames (λ (more : List PatNode). closes frames more) (out ++ node.Pair place ∷ []) in record { ts = round ∷ c.ts; nodes = c.nodes; rest = second_close refl c.rest }
closes (Given head f ∷ frames) out =
    let c = after head frames (λ (more : List PatNode). closes frames more) ((out ++ node.Field f.field_place f.field ∷ []) ++ node.Fields f.place f.con f.count ∷ []) in
    record { ts = brackets ∷ c.ts; nodes = c.nodes; rest = given_last refl c.rest }

after_all : (head : Head) (frames : List Frame) (out : List PatNode) → Completed frames (λ K ts. After K head out ts)
after_all head frames out = after head frames (closes frames) out

one_more : (place : Place) (c : Name) (count : ℕ) (frames : List Frame) (head : Head) (out : List PatNode) → Completed frames (λ K ts. Listed K head place c count out ts)
one_more place c count frames head out =
    let k = after_all head frames (((out ++ node.Var a_field.place some_name ∷ []) ++ node.Field a_field.place some_name ∷ []) ++ node.Fields place c (count + 1) ∷ []) in
    record { ts = a_field ∷ brackets ∷ k.ts; nodes = k.nodes; rest = listed (field_last (field_alone (record { kind = refl; named = name_differs }))) refl k.rest }

completed : (last : Last) (frames : List Frame) (head : Head) (out : List PatNode) → Completed frames (λ K ts. RestLast last K head out ts)
completed Wanted frames head out =
    let k = after_all head frames (out ++ node.Any any_value.place ∷ []) in record { ts = any_value ∷ k.ts; nodes = k.nodes; rest = simple (any refl) k.rest }
completed (Opened place) frames head out =
    let k = after_all head frames (out ++ node.Unit place ∷ []) in record { ts = round ∷ k.ts; nodes = k.nodes; rest = empty refl k.rest }
completed (Named place c) frames head out =
    let k = after_all (named_head head place c) frames (named_nodes head place c out) in record { ts = k.ts; nodes = k.nodes; rest = plain k.rest }
completed Done frames head out = after_all head frames out
completed (Bracketed place c) frames head out =
    let k = after_all head frames (out ++ node.Fields place c 0 ∷ []) in record { ts = brackets ∷ k.ts; nodes = k.nodes; rest = no_field refl k.rest }
completed (Parted place c count) frames head out = one_more place c count frames head out
completed (Chosen f) frames head out =
    let k = after_all head frames (((out ++ node.Var f.field_place f.field ∷ []) ++ node.Field f.field_place f.field ∷ []) ++ node.Fields f.place f.con f.count ∷ []) in
    record { ts = brackets ∷ k.ts; nodes = k.nodes; rest = alone (given_last refl k.rest) }

-- whatever was taken can be completed
machine_alive : (start reader : PatReader) → (ts : List Token) × ((nodes : List PatNode) × Runs (machine start) reader ts nodes [])
machine_alive start reader =
    let k = completed reader.last reader.frames reader.head reader.nodes in
    (k.ts, (k.nodes, rest_runs start k.nodes [] k.ts reader k.rest))

pat_sound : (ts us : List Token) (nodes : List PatNode) → Rest nodes us pat_start ts → PatOf ts nodes us
pat_sound ts us nodes k = by_come ts us nodes (to_come_pat _ [] ts k) where
  by_come : (ts us : List Token) (nodes : List PatNode) → Come (Closing nodes us []) [] ts → PatOf ts nodes us
  by_come ts us nodes c = record { pat = c.pat; reads = subst (λ vs. ReadsPat ts c.pat vs) c.rest.1 c.reads; is = sym c.rest.0 ∙ put_pat_is c.pat [] }

apat_sound : (ts us : List Token) (nodes : List PatNode) → Rest nodes us apat_start ts → ApatOf ts nodes us
apat_sound ts us nodes (simple {p = p} d k) = record { pat = p; reads = subst (λ vs. ReadsApat ts p vs) k.1 d; is = sym k.0 ∙ put_pat_is p [] }

apats_sound : (ts us : List Token) (nodes : List PatNode) → Rest nodes us apats_start ts → ApatsOf ts nodes us
apats_sound ts us nodes (repeats {ps = ps} ds k) = record { pats = ps; reads = subst (λ vs. ReadsApats ts ps vs) k.1 ds; is = sym k.0 ∙ put_row_is ps }

pub pat_reader_is_exact : PatReaderIsExact
pat_reader_is_exact = record {
  sound = λ {ts} {us} {a = nodes} run. pat_sound ts us nodes (runs_rest pat_start pat_start ts us nodes run);
  complete = λ {ts} {us} {a = nodes} r. rest_runs pat_start nodes us ts pat_start (pat_to_come _ [] ts us r.pat r.reads (sym (r.is ∙ sym (put_pat_is r.pat [])), refl));
  alive = λ {s = reader} r. machine_alive pat_start reader;
}

pub apat_reader_is_exact : ApatReaderIsExact
apat_reader_is_exact = record {
  sound = λ {ts} {us} {a = nodes} run. apat_sound ts us nodes (runs_rest apat_start apat_start ts us nodes run);
  complete = λ {ts} {us} {a = nodes} r. rest_runs apat_start nodes us ts apat_start (simple r.reads (sym (r.is ∙ sym (put_pat_is r.pat [])), refl));
  alive = λ {s = reader} r. machine_alive apat_start reader;
}

pub apats_reader_is_exact : ApatsReaderIsExact
apats_reader_is_exact = record {
  sound = λ {ts} {us} {a = nodes} run. apats_sound ts us nodes (runs_rest apats_start apats_start ts us nodes run);
  complete = λ {ts} {us} {a = nodes} r. rest_runs apats_start nodes us ts apats_start (repeats r.reads (sym (r.is ∙ sym (put_row_is r.pats)), refl));
  alive = λ {s = reader} r. machine_alive apats_start reader;
}
