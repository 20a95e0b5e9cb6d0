-- A loaded module with its rules and its first loss of a sort.
use Rattle.std.specs.Prelude.{◌≡◌, ℕ, List}
use Rattle.fvn_rewrite_rules.specs.Given.{AreRules}
use Rattle.fvn_module.specs.Contents.{Contents}
use Rattle.fvn_module_loading.specs.Loading.{IsLoaded}
use Rattle.fvn_module_loading.specs.Losses.{IsLossOf}
use Rattle.fvn_module_engines.specs.declared.loaded.Loaded.{Loaded}

-- the rules are those of this module's equations, and the loss is its first one of a sort
pub record IsOf (m : Contents) (l : Loaded) : Type 0 where
  pub declared_is : l.declared ≡ m
  pub equations : l.rules.equations ≡ m.equations
  pub rules : AreRules m.signature l.rules
  pub loss : IsLossOf m l.loss

-- the bytes are loaded as the module, and the rest is of it
pub record IsWhole (bytes : List ℕ) (l : Loaded) : Type 0 where
  pub is_loaded : IsLoaded bytes l.declared
  pub of : IsOf l.declared l
