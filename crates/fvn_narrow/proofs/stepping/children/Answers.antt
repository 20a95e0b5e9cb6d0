-- No unifier, or what each of them makes of the terms with the right side put in.
use Rattle.std.proofs.Common.{sym, ◌∙◌, subst, inl, inr}
use Rattle.fvn_terms.specs.declared.declarations.Declarations.{Declarations}
use Rattle.fvn_flat.specs.Fits.{AllFit}
use Rattle.fvn_rewrite.specs.Usable.{equations_by}
use Rattle.fvn_narrow_children.specs.Growing.{AreGrown}
use Rattle.fvn_narrow.specs.inner.Turns.{turn_of, put_in, CanStandBeside, CanReplace, AreMembers}
use Rattle.fvn_narrow.proofs.Members.{members_fit}
use Rattle.fvn_narrow.proofs.Posed.{can_replace, stands, given_is, no_unifiers}
use Rattle.fvn_narrow.proofs.stepping.children.Goals as goal

pub with_others-requires : goal.with_others-requires
with_others-requires g c =
    let r = c.args.tools.now.rewriter.now in
    let v = c.args.start.now.variant in
    let turn = turn_of c.args.part.now.member c.args.part.now.path.now c.args.part.now.beside c.args.rule.now in
    let usable = c.recall.ensures.usable in
    let rules = c.rules_are_lawful.ensures r.signature c.recall.ensures.good c.recall.ensures.completed (equations_by r) (λ e i. (usable.admissible e i).kinded.kinds) in
    subst (λ (d : Declarations). CanStandBeside d turn.beside turn.rule.right) (sym c.signature-sig.ensures) (stands r c.recall.ensures.good usable rules v c.args.start.now.next c.requires.ready c.args.part.now.at.now turn c.requires.turn)

pub members-requires : goal.members-requires
members-requires g c =
    let r = c.args.tools.now.rewriter.now in
    let v = c.args.start.now.variant in
    let turn = turn_of c.args.part.now.member c.args.part.now.path.now c.args.part.now.beside c.args.rule.now in
    let usable = c.recall.ensures.usable in
    let rules = c.rules_are_lawful.ensures r.signature c.recall.ensures.good c.recall.ensures.completed (equations_by r) (λ e i. (usable.admissible e i).kinded.kinds) in
    let can : CanReplace r.signature v.terms turn.member turn.path (put_in r.signature turn) = can_replace r c.recall.ensures.good usable rules v c.args.start.now.next c.requires.ready c.args.part.now.at.now turn c.requires.turn in
    let given = given_is r.signature c.signature-sig.result.now turn c.in_ok-given.given c.signature-sig.ensures c.in_ok-given.ensures in record {
      terms = subst (λ (d : Declarations). AllFit d c.as_slice-terms.result.now) (sym c.signature-sig.ensures) (subst (AllFit r.signature) (sym c.as_slice-terms.ensures) c.requires.ready.flat.terms);
      given = subst (λ (d : Declarations). CanReplace d c.as_slice-terms.result.now turn.member turn.path c.in_ok-given.given) (sym c.signature-sig.ensures)
          (subst (λ l. CanReplace r.signature l turn.member turn.path c.in_ok-given.given) (sym c.as_slice-terms.ensures) (subst (CanReplace r.signature v.terms turn.member turn.path) (sym given) can));
    }

pub grown-requires : goal.grown-requires
grown-requires g c =
    let r = c.args.tools.now.rewriter.now in
    let v = c.args.start.now.variant in
    let turn = turn_of c.args.part.now.member c.args.part.now.path.now c.args.part.now.beside c.args.rule.now in
    let all = c.in_ok-all.all.items in
    let given = given_is r.signature c.signature-sig.result.now turn c.in_ok-given.given c.signature-sig.ensures c.in_ok-given.ensures in
    let made : AreMembers r.signature v.terms turn.member turn.path (put_in r.signature turn) all =
    subst (λ w. AreMembers r.signature v.terms turn.member turn.path w all) given
    (subst (λ (d : Declarations). AreMembers d v.terms turn.member turn.path c.in_ok-given.given all) c.signature-sig.ensures
    (subst (λ l. AreMembers c.signature-sig.result.now l turn.member turn.path c.in_ok-given.given all) c.as_slice-terms.ensures c.in_ok-all.ensures)) in record {
      size = c.args.tools.now.one_bound;
      unifiers = c.requires.unifiers;
      members = subst (AllFit r.signature) (sym c.as_slice.ensures.value)
          (members_fit r.signature v.terms turn.member turn.path (put_in r.signature turn) all made c.requires.ready.flat.terms c.requires.turn.term c.requires.turn.whole c.requires.turn.is c.requires.turn.leads);
      variant = c.requires.ready.flat;
      irreducible = c.requires.ready.irreducible;
    }

pub returns-then-is_empty : goal.returns-then-is_empty
returns-then-is_empty g c = inl (no_unifiers c.args.unifiers.now (sym c.is_empty.ensures ∙ c.if-is_empty.true), c.no_children.ensures.children, c.no_children.ensures.end)

pub returns : goal.returns
returns g c =
    let r = c.args.tools.now.rewriter.now in
    let v = c.args.start.now.variant in
    let turn = turn_of c.args.part.now.member c.args.part.now.path.now c.args.part.now.beside c.args.rule.now in
    let all = c.in_ok-all.all.items in
    let given = given_is r.signature c.signature-sig.result.now turn c.in_ok-given.given c.signature-sig.ensures c.in_ok-given.ensures in
    let made : AreMembers r.signature v.terms turn.member turn.path (put_in r.signature turn) all =
    subst (λ w. AreMembers r.signature v.terms turn.member turn.path w all) given
    (subst (λ (d : Declarations). AreMembers d v.terms turn.member turn.path c.in_ok-given.given all) c.signature-sig.ensures
    (subst (λ l. AreMembers c.signature-sig.result.now l turn.member turn.path c.in_ok-given.given all) c.as_slice-terms.ensures c.in_ok-all.ensures)) in
    inr (all, made, subst (λ l. AreGrown r v l c.args.unifiers.now c.in_ok-e.e) c.as_slice.ensures.value c.in_ok-e.ensures)
