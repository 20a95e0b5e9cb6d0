-- The module is loaded, and the rest is of it.
use Rattle.std.proofs.Common.{refl, sym, subst, inl}
use Rattle.fvn_module.specs.Contents.{Contents}
use Rattle.fvn_module_loading.specs.Loading.{IsLoaded}
use Rattle.fvn_module_engines.specs.Loaded.{IsOf}
use Rattle.fvn_module_engines.proofs.loaded.load_with_rules.Goals as goal

pub returns-in-Ok-with_rules-clause-ok : goal.returns-in-Ok-with_rules-clause-ok
returns-in-Ok-with_rules-clause-ok c = record {
  is_loaded = subst (IsLoaded c.args.bytes.now) (sym c.in-Ok-with_rules.ensures.declared_is) c.in-Ok.ensures.ok;
  of = subst (λ (m : Contents). IsOf m c.in-Ok-with_rules.loaded) (sym c.in-Ok-with_rules.ensures.declared_is) c.in-Ok-with_rules.ensures;
}

pub returns-in-Err-with_rules-clause-err : goal.returns-in-Err-with_rules-clause-err
returns-in-Err-with_rules-clause-err c = inl tt

pub returns-in-Err-with_rules-clause-none : goal.returns-in-Err-with_rules-clause-none
returns-in-Err-with_rules-clause-none c = inl refl
