-- Two heads, two arguments side by side, and two sums.
use Rattle.std.proofs.Common.{◌≡◌, ◌<◌, ◌≤◌, ◌∷◌, [], ◌⊎◌, All, Contains, length, Some, sym, ap, ◌∙◌, subst, inl, inr, arith}
use Rattle.std.proofs.lemmas.List.{take_all}
use Rattle.std.proofs.lemmas.List.Elements.{All-more, Contains-get_or}
use Rattle.fvn_terms.proofs.AxiomWords.{free_is}
use Rattle.fvn_terms.specs.Equality.{is_free, IsAssociative}
use Rattle.fvn_terms.specs.Signature.{axioms}
use Rattle.fvn_flat.specs.Fits.{Fits}
use Rattle.fvn_flat.proofs.Instances.{each_at}
use Rattle.fvn_flat.proofs.Smaller.{places_at}
use Rattle.fvn_places.specs.Clashes.{NeverMeet, SomeNeverMeet}
use Rattle.fvn_places.specs.inner.Sums.{SumsClash}
use Rattle.fvn_places.proofs.Measures.{args_fall, two_fall}
use Rattle.fvn_places.proofs.ClashFacts.{heads_differ, heads_same, heads_never_meet, arguments_never_meet}
use Rattle.fvn_places.proofs.SumClashes.{two_of, sums_never_meet}
use Rattle.fvn_places.proofs.clashes.+clash.Goals as goal

pub clash-some_clash-requires : goal.clash-some_clash-requires
clash-some_clash-requires t c =
    let d = c.args.sig.now in (
      omega (arith, args_fall c.args.t.now c.args-ts.result.now c.args-ts.ensures.exact, args_fall c.args.u.now c.args-us.result.now c.args-us.ensures.exact),
      (c.args-ts.ensures.fit d c.recall_good.ensures.fits c.requires.first, c.args-us.ensures.fit d c.recall_good.ensures.fits c.requires.second),
    )

pub clash-sums_clash-requires : goal.clash-sums_clash-requires
clash-sums_clash-requires t c =
    let d = c.args.sig.now in (
      omega (arith, args_fall c.args.t.now c.args-ts.result.now c.args-ts.ensures.exact, args_fall c.args.u.now c.args-us.result.now c.args-us.ensures.exact),
      (c.args-ts.ensures.fit d c.recall_good.ensures.fits c.requires.first, c.args-us.ensures.fit d c.recall_good.ensures.fits c.requires.second),
    )

pub some_clash-clash-requires : goal.some_clash-clash-requires
some_clash-clash-requires t c =
    let d = c.args.sig.now in
    let ts = c.args.ts.now in
    let us = c.args.us.now in
    let room : c.loop-i.i < length us = omega (arith, c.loop-i-test.true, c.if-us-count.false) in (
      omega (arith, places_at ts c.loop-i.i c.index-ts-i.result c.loop-i-test.true c.index-ts-i.is, places_at us c.loop-i.i c.index-us-i.result room c.index-us-i.is),
      (each_at (Fits d) ts c.requires.first c.loop-i.i c.index-ts-i.result c.loop-i-test.true c.index-ts-i.is, each_at (Fits d) us c.requires.second c.loop-i.i c.index-us-i.result room c.index-us-i.is),
    )

pub is_unmet-clash-requires : goal.is_unmet-clash-requires
is_unmet-clash-requires t c =
    let d = c.args.sig.now in
    let us = c.args.us.now in (
      omega (arith, places_at us c.loop-u.u-index c.u-item.result c.loop-u-test.true c.u-item.is),
      (c.requires.first, each_at (Fits d) us c.requires.second c.loop-u.u-index c.u-item.result c.loop-u-test.true c.u-item.is),
    )

pub is_unmet-loop-u-preserved : goal.is_unmet-loop-u-preserved
is_unmet-loop-u-preserved t c =
    let P = NeverMeet c.args.sig.now c.args.t.now in
    All-more P c.args.us.now c.loop-u.u-index c.u-item.result c.loop-u-test.true c.loop-u.invariant (subst P c.u-item.is (c.clash.ensures c.if-not-clash.false))

pub is_unmet-returns : goal.is_unmet-returns
is_unmet-returns t c e = subst (All (NeverMeet c.args.sig.now c.args.t.now)) (take_all c.loop-u.u-index c.args.us.now c.loop-u-test.false) c.loop-u.invariant

pub some_unmet-is_unmet-requires : goal.some_unmet-is_unmet-requires
some_unmet-is_unmet-requires t c =
    let d = c.args.sig.now in
    let ts = c.args.ts.now in (
      omega (arith, places_at ts c.loop-t.t-index c.t-item.result c.loop-t-test.true c.t-item.is),
      (each_at (Fits d) ts c.requires.first c.loop-t.t-index c.t-item.result c.loop-t-test.true c.t-item.is, c.requires.second),
    )

pub some_unmet-returns-then-is_unmet : goal.some_unmet-returns-then-is_unmet
some_unmet-returns-then-is_unmet t c e = record {
  summand = c.t-item.result;
  listed = subst (λ u. Contains c.args.ts.now u) (sym c.t-item.is) (Contains-get_or c.args.ts.now c.loop-t.t-index c.t-item.result c.loop-t-test.true);
  firm = c.is_firm.ensures c.if-not-is_firm.false;
  unmet = c.is_unmet.ensures c.if-is_unmet.true;
}

pub exceeds-some_unmet-requires : goal.exceeds-some_unmet-requires
exceeds-some_unmet-requires t c = (omega arith, (c.requires.first, c.requires.second))

pub exceeds-returns-then-us-ts : goal.exceeds-returns-then-us-ts
exceeds-returns-then-us-ts t c e = record { firm = c.are_firm.ensures c.if-not-are_firm.false; over = inl (omega (arith, c.if-us-ts.true)) }

pub exceeds-returns : goal.exceeds-returns
exceeds-returns t c e = record { firm = c.are_firm.ensures c.if-not-are_firm.false; over = inr (c.some_unmet.ensures e) }

pub are_twice-clash-requires : goal.are_twice-clash-requires
are_twice-clash-requires t c =
    let d = c.args.sig.now in
    let ts = c.args.ts.now in
    let a = c.index-ts-0.result in
    let b = c.index-ts-1.result in
    let two : length ts ≡ 2 = omega (arith, c.if-ts-ne2.false) in (
      omega (arith, two_fall ts a b (two_of ts a b two c.index-ts-0.is c.index-ts-1.is)),
      (each_at (Fits d) ts c.requires.first 0 a (omega (arith, two)) c.index-ts-0.is, each_at (Fits d) ts c.requires.first 1 b (omega (arith, two)) c.index-ts-1.is),
    )

pub are_twice-returns : goal.are_twice-returns
are_twice-returns t c e =
    let ts = c.args.ts.now in
    let us = c.args.us.now in
    let u = c.index-us-0.result in
    let one : u ≡ c.index-us-1.result = c.same.ensures.exact.0 c.if-not-same.false in record {
      firm = c.are_firm.ensures c.if-not-are_firm.false;
      first = c.index-ts-0.result;
      second = c.index-ts-1.result;
      twice = u;
      are = two_of ts c.index-ts-0.result c.index-ts-1.result (omega (arith, c.if-ts-ne2.false)) c.index-ts-0.is c.index-ts-1.is;
      both = two_of us u c.index-us-1.result (omega (arith, c.if-us-ne2.false)) c.index-us-0.is c.index-us-1.is ∙ ap (λ w. u ∷ w ∷ []) (sym one);
      never = c.clash.ensures e;
    }

pub sums_clash-exceeds-requires : goal.sums_clash-exceeds-requires
sums_clash-exceeds-requires t c = (omega arith, (c.requires.first, c.requires.second))

pub sums_clash-returns-then-exceeds : goal.sums_clash-returns-then-exceeds
sums_clash-returns-then-exceeds t c e = record {
  associative = subst IsAssociative c.axioms.ensures (c.is_sum.ensures.holds.0 c.if-not-is_sum.false);
  lasting = c.keeps_heads.ensures c.if-not-keeps_heads.false;
  many = (omega (arith, c.if-ts-lt2.false), omega (arith, c.if-us-lt2.false));
  clash = inl (c.exceeds.ensures c.if-exceeds.true);
}

pub sums_clash-returns-then-exceeds-2 : goal.sums_clash-returns-then-exceeds-2
sums_clash-returns-then-exceeds-2 t c e = record {
  associative = subst IsAssociative c.axioms.ensures (c.is_sum.ensures.holds.0 c.if-not-is_sum.false);
  lasting = c.keeps_heads.ensures c.if-not-keeps_heads.false;
  many = (omega (arith, c.if-ts-lt2.false), omega (arith, c.if-us-lt2.false));
  clash = inr (inl (c.exceeds-2.ensures c.if-exceeds-2.true));
}

pub sums_clash-returns : goal.sums_clash-returns
sums_clash-returns t c e = record {
  associative = subst IsAssociative c.axioms.ensures (c.is_sum.ensures.holds.0 c.if-not-is_sum.false);
  lasting = c.keeps_heads.ensures c.if-not-keeps_heads.false;
  many = (omega (arith, c.if-ts-lt2.false), omega (arith, c.if-us-lt2.false));
  clash = inr (inr (c.are_twice.ensures e));
}

pub clash-returns-then-ne : goal.clash-returns-then-ne
clash-returns-then-ne t c kept =
    let d = c.args.sig.now in
    heads_never_meet d c.in-Some.f c.in-Some-head.g c.args.t.now c.args.u.now c.requires.first.flat c.requires.second.flat (sym c.head.ensures ∙ c.in-Some.is) (sym c.head-2.ensures ∙ c.in-Some-head.is)
    (heads_differ c.in-Some.f c.in-Some-head.g c.ne.result c.ne.ensures c.if-ne.true) (c.keeps_heads.ensures c.if-not-keeps_heads.false) (c.keeps_heads-then-ne.ensures kept)

pub clash-returns-then-not-is_free : goal.clash-returns-then-not-is_free
clash-returns-then-not-is_free t c found =
    let d = c.args.sig.now in
    sums_never_meet d c.in-Some.f c.args.t.now c.args.u.now c.requires.first.flat c.requires.second.flat (sym c.head.ensures ∙ c.in-Some.is) (sym c.head-2.ensures ∙ c.in-Some-head.is ∙ ap Some (sym (heads_same c.in-Some.f c.in-Some-head.g c.ne.result c.ne.ensures c.if-ne.false)))
    (subst (SumsClash d c.in-Some.f _) c.args-us.ensures.exact (subst (λ l. SumsClash d c.in-Some.f l c.args-us.result.now) c.args-ts.ensures.exact (c.sums_clash.ensures found)))

pub clash-returns : goal.clash-returns
clash-returns t c found =
    let d = c.args.sig.now in
    arguments_never_meet d c.in-Some.f c.args.t.now c.args.u.now (free_is (axioms d c.in-Some.f) (ap is_free (sym c.axioms.ensures) ∙ sym c.is_free.ensures ∙ c.if-not-is_free.false)) c.requires.first.flat c.requires.second.flat (sym c.head.ensures ∙ c.in-Some.is) (sym c.head-2.ensures ∙ c.in-Some-head.is ∙ ap Some (sym (heads_same c.in-Some.f c.in-Some-head.g c.ne.result c.ne.ensures c.if-ne.false)))
    (subst (SomeNeverMeet d _) c.args-us.ensures.exact (subst (λ l. SomeNeverMeet d l c.args-us.result.now) c.args-ts.ensures.exact (c.some_clash.ensures found)))
