use Rattle.std.proofs.Common.{◌≡◌, ◌≤◌, ℕ, ◌++◌, Some, set, ap, ◌∙◌}
use Rattle.hb_unknowns.specs.declared.node.Entry.{Entry}
use Rattle.hb_unknowns.specs.declared.node.Node.TheVariants.{Link}
use Rattle.hb_unknowns.specs.Joined.{at, entry_at, level_at, joined, parts}
use Rattle.hb_unknowns.proofs.GraphLemmas.{linked, with_link, entry}
use Rattle.hb_unknowns.proofs.graph.link.Goals as goal

pub returns-clause-linked : goal.returns-clause-linked
returns-clause-linked c =
    let first : c.entry_at-first.result ≡ entry_at c.args.entries.now.items c.args.low = cc in
    let second : c.entry_at-second.result ≡ entry_at c.args.entries.now.items c.args.high = cc in
    let joins : joined (at c.args.entries.now.items c.args.low) (at c.args.entries.now.items c.args.high) ≡ Some c.in-Some.both = cc in
    let less : c.raised.result ≤ level_at c.args.entries.now.items c.args.low = rw first at c.raised.ensures in
    let now : c.write-2.new.entries.items ≡ with_link c.args.entries.now.items c.args.low c.args.high c.in-Some.both c.raised.result =
    c.in_ok-write-2.ensures.ok ∙ ap (λ es. set es c.args.low (entry c.in-Some.both c.raised.result)) (c.in_ok-write.ensures.ok ∙ ap (λ (k : ℕ). set c.args.entries.now.items c.args.high (entry (Link c.args.low) k)) (ap (λ (e : Entry). e.level) second)) in
    let waits : c.push_parts.new.pending.items ≡ c.args.pending.now.items ++ parts (at c.args.entries.now.items c.args.low) (at c.args.entries.now.items c.args.high) =
    c.in_ok-push_parts.ensures ∙ ap (λ (e : Entry). c.args.pending.now.items ++ parts e.node c.entry_at-second.result.node) first
    ∙ ap (λ (e : Entry). c.args.pending.now.items ++ parts (at c.args.entries.now.items c.args.low) e.node) second in
    rw (now, waits)
    (linked c.args.entries.now.items c.args.pending.now.items c.args.low c.args.high c.in-Some.both c.raised.result c.requires.order c.requires.low_within c.requires.high_within less
    c.requires.graph c.requires.pending c.requires.low_root c.requires.high_root joins)
