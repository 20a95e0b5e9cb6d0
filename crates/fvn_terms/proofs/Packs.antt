-- Lists of terms as arguments.
use Rattle.std.proofs.Common.{List, [], ◌∷◌}
use Rattle.std.specs.List.{AllZip}
use Rattle.fvn_terms.specs.declared.plain.OpId.{OpId}
use Rattle.fvn_terms.specs.Term.{Term, app, pack}
use Rattle.fvn_terms.specs.Places.{AtOnePlace, Leads}
use Rattle.fvn_terms.proofs.Steps.{EachLeads, each_none, each_more, Leads_inside}

EachLeads-pack : {R : Term → Term → Type 0} (ts us : List Term) → AllZip (Leads (AtOnePlace R)) ts us → EachLeads R (pack ts) (pack us)
EachLeads-pack [] [] h = each_none
EachLeads-pack [] (u ∷ us) h = absurd h
EachLeads-pack (t ∷ ts) [] h = absurd h
EachLeads-pack (t ∷ ts) (u ∷ us) h = each_more h.0 (EachLeads-pack ts us h.1)

-- steps are made among the arguments
pub congruence : {R : Term → Term → Type 0} (f : OpId) (ts us : List Term) → AllZip (Leads (AtOnePlace R)) ts us → Leads (AtOnePlace R) (app f (pack ts)) (app f (pack us))
congruence f ts us h = Leads_inside f (EachLeads-pack ts us h)
