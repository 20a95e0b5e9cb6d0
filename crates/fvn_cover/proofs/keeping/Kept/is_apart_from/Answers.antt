-- what the marks refuse is no covering, in neither way
use Rattle.std.proofs.Common.{◌++◌}
use Rattle.fvn_cover_counts.specs.Marks.{AreMarks}
use Rattle.fvn_cover.specs.Covering.{values_of}
use Rattle.fvn_cover.proofs.CoverFacts.{never_covers}
use Rattle.fvn_cover.proofs.Prunings.{alike_sym}
use Rattle.fvn_cover.proofs.keeping.Kept.is_apart_from.Goals as goal

pub returns : goal.returns
returns c =
    let d = c.args.sig.now in
    let a = c.args.self.now in
    let b = c.args.other.now in
    let p : AreMarks (a.terms ++ values_of a) c.self.inside.marks = rw c.self.view_is at c.self.invariant.2 in
    let q : AreMarks (b.terms ++ values_of b) c.other.inside.marks = rw c.other.view_is at c.other.invariant.2 in
    record {
      this = λ t. never_covers d a b c.requires.alike (c.are_apart.ensures.there t d (a.terms ++ values_of a) (b.terms ++ values_of b) c.requires.out p q);
      that = λ t. never_covers d b a (alike_sym a b c.requires.alike) (c.are_apart.ensures.back t d (b.terms ++ values_of b) (a.terms ++ values_of a) c.requires.out q p);
    }
