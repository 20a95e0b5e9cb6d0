-- the children of a chunk, compared with what is kept
use Rattle.std.proofs.Common.{arith}
use Rattle.fvn_fold.proofs.Nexts.{kept_expandable}
use Rattle.fvn_fold.proofs.Gathers.{gathered_from}
use Rattle.fvn_fold.proofs.Chunks.{chunk_facts}
use Rattle.fvn_fold.proofs.levels.chunk_level.Goals as goal

pub expand_level-requires-clause-workers : goal.expand_level-requires-clause-workers
expand_level-requires-clause-workers g c κs within = (c.sharers-expanding.ensures.some, omega (arith, c.sharers-expanding.ensures.most, c.requires.few_workers))

pub marks-requires-clause-workers : goal.marks-requires-clause-workers
marks-requires-clause-workers g c κs within = (c.sharers-comparing.ensures.some, omega (arith, c.sharers-comparing.ensures.most, c.requires.few_workers))

pub expand_level-requires-clause-members : goal.expand_level-requires-clause-members
expand_level-requires-clause-members g c κs within = kept_expandable (g.E.Expander.setting c.args.task.now.expander.now) c.args.kept.now c.requires.ready c.args.members.now c.requires.members

pub marks-requires-clause-comparable : goal.marks-requires-clause-comparable
marks-requires-clause-comparable g c κs within =
    let s = g.E.Expander.setting c.args.task.now.expander.now in
    let drawn = g.E.Expander.drawn c.args.task.now.expander.now in
    let found = gathered_from s drawn c.args.members.now c.in_ok-expansions.expansions.items c.in_ok-expansions.ensures.expanded c.in_ok-found.found.candidates.items c.in_ok-found.found.end c.in_ok-found.ensures in
    let facts = chunk_facts s drawn c.args.kept.now c.requires.ready c.args.members.now c.requires.members c.args.before.items c.requires.before c.in_ok-found.found.candidates.items c.in_ok-found.found.end found c.args.task.now.sig.now c.requires.task.setting.declarations in
    rw (c.as_slice.ensures.value, c.in_ok-children.ensures) facts.compared

pub taken-requires-clause-comparable : goal.taken-requires-clause-comparable
taken-requires-clause-comparable g c =
    let s = g.E.Expander.setting c.args.task.now.expander.now in
    let drawn = g.E.Expander.drawn c.args.task.now.expander.now in
    let found = gathered_from s drawn c.args.members.now c.in_ok-expansions.expansions.items c.in_ok-expansions.ensures.expanded c.in_ok-found.found.candidates.items c.in_ok-found.found.end c.in_ok-found.ensures in
    let facts = chunk_facts s drawn c.args.kept.now c.requires.ready c.args.members.now c.requires.members c.args.before.items c.requires.before c.in_ok-found.found.candidates.items c.in_ok-found.found.end found c.args.task.now.sig.now c.requires.task.setting.declarations in
    rw c.in_ok-children.ensures facts.compared

pub taken-requires-clause-marks : goal.taken-requires-clause-marks
taken-requires-clause-marks g c = rw c.as_slice-2.ensures.value (rw c.as_slice.ensures.value at c.in_ok-covered.ensures.marks)

pub taken-requires-clause-flat : goal.taken-requires-clause-flat
taken-requires-clause-flat g c =
    let s = g.E.Expander.setting c.args.task.now.expander.now in
    let drawn = g.E.Expander.drawn c.args.task.now.expander.now in
    let found = gathered_from s drawn c.args.members.now c.in_ok-expansions.expansions.items c.in_ok-expansions.ensures.expanded c.in_ok-found.found.candidates.items c.in_ok-found.found.end c.in_ok-found.ensures in
    let facts = chunk_facts s drawn c.args.kept.now c.requires.ready c.args.members.now c.requires.members c.args.before.items c.requires.before c.in_ok-found.found.candidates.items c.in_ok-found.found.end found c.args.task.now.sig.now c.requires.task.setting.declarations in
    facts.flat

pub taken-requires-clause-apart : goal.taken-requires-clause-apart
taken-requires-clause-apart g c =
    let s = g.E.Expander.setting c.args.task.now.expander.now in
    let drawn = g.E.Expander.drawn c.args.task.now.expander.now in
    let found = gathered_from s drawn c.args.members.now c.in_ok-expansions.expansions.items c.in_ok-expansions.ensures.expanded c.in_ok-found.found.candidates.items c.in_ok-found.found.end c.in_ok-found.ensures in
    let facts = chunk_facts s drawn c.args.kept.now c.requires.ready c.args.members.now c.requires.members c.args.before.items c.requires.before c.in_ok-found.found.candidates.items c.in_ok-found.found.end found c.args.task.now.sig.now c.requires.task.setting.declarations in
    facts.apart

pub taken-requires-clause-alike : goal.taken-requires-clause-alike
taken-requires-clause-alike g c =
    let s = g.E.Expander.setting c.args.task.now.expander.now in
    let drawn = g.E.Expander.drawn c.args.task.now.expander.now in
    let found = gathered_from s drawn c.args.members.now c.in_ok-expansions.expansions.items c.in_ok-expansions.ensures.expanded c.in_ok-found.found.candidates.items c.in_ok-found.found.end c.in_ok-found.ensures in
    let facts = chunk_facts s drawn c.args.kept.now c.requires.ready c.args.members.now c.requires.members c.args.before.items c.requires.before c.in_ok-found.found.candidates.items c.in_ok-found.found.end found c.args.task.now.sig.now c.requires.task.setting.declarations in
    rw c.in_ok-children.ensures facts.alike

pub taken-requires-clause-candidates : goal.taken-requires-clause-candidates
taken-requires-clause-candidates g c =
    let s = g.E.Expander.setting c.args.task.now.expander.now in
    let drawn = g.E.Expander.drawn c.args.task.now.expander.now in
    let found = gathered_from s drawn c.args.members.now c.in_ok-expansions.expansions.items c.in_ok-expansions.ensures.expanded c.in_ok-found.found.candidates.items c.in_ok-found.found.end c.in_ok-found.ensures in
    let facts = chunk_facts s drawn c.args.kept.now c.requires.ready c.args.members.now c.requires.members c.args.before.items c.requires.before c.in_ok-found.found.candidates.items c.in_ok-found.found.end found c.args.task.now.sig.now c.requires.task.setting.declarations in
    rw c.in_ok-children.ensures facts.each

pub returns : goal.returns
returns g c =
    let s = g.E.Expander.setting c.args.task.now.expander.now in
    let drawn = g.E.Expander.drawn c.args.task.now.expander.now in
    let found = gathered_from s drawn c.args.members.now c.in_ok-expansions.expansions.items c.in_ok-expansions.ensures.expanded c.in_ok-found.found.candidates.items c.in_ok-found.found.end c.in_ok-found.ensures in
    let facts = chunk_facts s drawn c.args.kept.now c.requires.ready c.args.members.now c.requires.members c.args.before.items c.requires.before c.in_ok-found.found.candidates.items c.in_ok-found.found.end found c.args.task.now.sig.now c.requires.task.setting.declarations in
    facts.more c.in_ok-next.next.items (rw c.in_ok-children.ensures at c.in_ok-next.ensures)

pub all_kept-requires : goal.all_kept-requires
all_kept-requires g c =
    let s = g.E.Expander.setting c.args.task.now.expander.now in
    let drawn = g.E.Expander.drawn c.args.task.now.expander.now in
    let found = gathered_from s drawn c.args.members.now c.in_ok-expansions.expansions.items c.in_ok-expansions.ensures.expanded c.in_ok-found.found.candidates.items c.in_ok-found.found.end c.in_ok-found.ensures in
    let facts = chunk_facts s drawn c.args.kept.now c.requires.ready c.args.members.now c.requires.members c.args.before.items c.requires.before c.in_ok-found.found.candidates.items c.in_ok-found.found.end found c.args.task.now.sig.now c.requires.task.setting.declarations in
    facts.compared.candidates_flat
