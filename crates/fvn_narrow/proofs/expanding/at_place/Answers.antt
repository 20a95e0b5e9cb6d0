-- The place's form, by the rules that are needed under its head.
use Rattle.std.proofs.Common.{List, ℕ, refl, sym, subst}
use Rattle.fvn_places.specs.Paths.{LeadsTo}
use Rattle.fvn_narrow.proofs.expanding.at_place.Goals as goal

pub at_form-requires : goal.at_form-requires
at_form-requires g c =
    let q = c.requires.place in record {
      ready = c.requires.ready;
      form = record {
        term = q.stands.term;
        is = q.stands.is;
        leads = subst (λ (p : List ℕ). LeadsTo p q.stands.term c.args.place.now.at.now) (sym c.as_slice.ensures) q.stands.leads;
        heads = q.heads;
      };
      whole = refl;
    }

pub returns : goal.returns
returns g c = c.in_ok-e.ensures
