use Rattle.std.proofs.Common.{drop, sym, ◌∙◌}
use Rattle.std.proofs.lemmas.List.{take_rest}
use Rattle.hb_script.proofs.WordLemmas.{no_word, word_begins, one_word, word_ends}
use Rattle.hb_script.proofs.words.next_word.Goals as goal

pub returns-in_err-line : goal.returns-in_err-line
returns-in_err-line c = rw c.from_residual.ensures (no_word c.args.line.now (sym c.in_err-line.ensures))

pub returns-in-None : goal.returns-in-None
returns-in-None c =
    let n = c.in_ok-line.field-0 in
    let begins = word_begins c.args.line.now n (sym c.in_ok-line.ensures) in
    let e = sym c.in-None.ensures in
    rw (take_rest c.args.line.now n) (begins.0 ∙ one_word (drop n c.args.line.now) begins.1 (rw (take_rest c.args.line.now n) at e))

pub returns-in-Some : goal.returns-in-Some
returns-in-Some c =
    let n = c.in_ok-line.field-0 in
    let k = c.in-Some.end in
    let begins = word_begins c.args.line.now n (sym c.in_ok-line.ensures) in
    let e = sym c.in-Some.ensures in
    simp take_rest (begins.0 ∙ word_ends (drop n c.args.line.now) k begins.1 (rw (take_rest c.args.line.now n) at e))
