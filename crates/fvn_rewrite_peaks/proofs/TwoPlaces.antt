-- Two places of one form.
use Rattle.std.proofs.Common.{Bool}
use Rattle.fvn_terms.specs.declared.plain.OpId.{OpId}
use Rattle.fvn_forms.specs.Flat.{FlatTerm, FlatTerms, fapp, fmore}
use Rattle.fvn_flat.specs.FlatPlaces.{IsReplaced, IsReplacedAmong, here, inside, first, later}
use Rattle.fvn_rewrite_peaks.specs.Peaks.{AreTwoPlaces, apart, within_first, within_second}

-- the same of lists
data AreTwoAmong (a g b h : FlatTerm) (ts us : FlatTerms) : Type 0 where
  apart_among : {ws : FlatTerms} → IsReplacedAmong b h ts ws → IsReplacedAmong a g us ws → AreTwoAmong a g b h ts us
  first_among : {k : FlatTerm} → IsReplaced b h a k → IsReplacedAmong g k ts us → AreTwoAmong a g b h ts us
  second_among : {k : FlatTerm} → IsReplaced a g b k → IsReplacedAmong k h ts us → AreTwoAmong a g b h ts us

at_first : {a g b h t u : FlatTerm} (ts : FlatTerms) → AreTwoPlaces a g b h t u → AreTwoAmong a g b h (fmore t ts) (fmore u ts)
at_first ts (apart p q) = apart_among (first p) (first q)
at_first ts (within_first p q) = first_among p (first q)
at_first ts (within_second p q) = second_among p (first q)

at_later : {a g b h : FlatTerm} {ts us : FlatTerms} (t : FlatTerm) → AreTwoAmong a g b h ts us → AreTwoAmong a g b h (fmore t ts) (fmore t us)
at_later t (apart_among p q) = apart_among (later p) (later q)
at_later t (first_among p q) = first_among p (later q)
at_later t (second_among p q) = second_among p (later q)

under : {a g b h : FlatTerm} {ts us : FlatTerms} (f : OpId) (joined : Bool) → AreTwoAmong a g b h ts us → AreTwoPlaces a g b h (fapp f joined ts) (fapp f joined us)
under f joined (apart_among p q) = apart (inside p) (inside q)
under f joined (first_among p q) = within_first p (inside q)
under f joined (second_among p q) = within_second p (inside q)

mutual
  pub two_places : {a g b h t u v : FlatTerm} → IsReplaced a g t u → IsReplaced b h t v → AreTwoPlaces a g b h u v
  two_places here q = within_first q here
  two_places (inside p) here = within_second (inside p) here
  two_places (inside {f} {joined} p) (inside q) = under f joined (two_among p q)

  two_among : {a g b h : FlatTerm} {ts us vs : FlatTerms} → IsReplacedAmong a g ts us → IsReplacedAmong b h ts vs → AreTwoAmong a g b h us vs
  two_among (first {ts} p) (first q) = at_first ts (two_places p q)
  two_among (first p) (later q) = apart_among (later q) (first p)
  two_among (later p) (first q) = apart_among (first q) (later p)
  two_among (later {t} p) (later q) = at_later t (two_among p q)
