-- What a node that is an application stands for.
use Rattle.std.proofs.Common.{◌≡◌, ℕ, ◌+◌, ◌≤◌, Bool, false, nat_eq, List, [], ◌∷◌, length, take, None, refl, sym, ap, subst, ◌∙◌, Vec, Global}
use Rattle.std.proofs.lemmas.List.{take_all}
use Rattle.fvn_forms.proofs.Sizes.{all_symbols}
use Rattle.fvn_flat.specs.Own.{own}
use Rattle.fvn_flat.proofs.Symbols.{symbols_of_app}
use Rattle.std.specs.Prelude.{◌↔◌}
use Rattle.fvn_terms.specs.declared.plain.Var.{Var as Variable}
use Rattle.fvn_terms.specs.declared.plain.OpId.{OpId}
use Rattle.fvn_terms.specs.Substitution.{Occurs}
use Rattle.fvn_forms.specs.Flat.{FlatTerm, fapp, fpack, plain, plain_all, over, symbols}
use Rattle.fvn_forms.specs.Canon.{as_constant}
use Rattle.fvn_forms.proofs.Sums.{funpack-fpack}
use Rattle.fvn_flat.specs.Forms.{args_of}
use Rattle.fvn_flat.specs.inner.Node.{form_of}
use Rattle.fvn_flat.specs.declared.flat.Node.{Node}
use Rattle.fvn_flat.specs.declared.flat.Node.TheVariants.{App}
use Rattle.fvn_flat.proofs.Occurrences.{OccursIn, occurs_in_app}

some_args : (f : OpId) (l : List FlatTerm) → nat_eq (length l) 0 ≡ false → as_constant (fapp f false (fpack l)) ≡ None
some_args f [] e = cc
some_args f (t ∷ l) e = refl

module _ (n : Node) (t : FlatTerm) (f : OpId) (joined : Bool) (ts : Vec FlatTerm Global) (items : List FlatTerm) (view : form_of n ≡ t) (is : n ≡ App f joined ts) (are : items ≡ ts.items) where
  pub app_view : t ≡ fapp f joined (fpack items)
  app_view = sym view ∙ ap form_of is ∙ ap (λ l. fapp f joined (fpack l)) (sym are)

  pub args_view : items ≡ args_of t
  args_view = sym (ap args_of app_view ∙ funpack-fpack items)

  pub occurs_view : (x : Variable) → Occurs x (plain t) ↔ OccursIn x items
  occurs_view x = subst (λ u. Occurs x (plain u) ↔ OccursIn x items) (sym app_view) (occurs_in_app x f joined (fpack items))

  pub symbols_view : (i n : ℕ) → length items ≤ i → n ≡ own joined (length items) → n + all_symbols (take i items) ≡ symbols t
  symbols_view i n done is_own = ap (λ l. n + all_symbols l) (take_all i items done) ∙ ap (λ m. m + all_symbols items) is_own ∙ sym (symbols_of_app f joined items) ∙ ap symbols (sym app_view)

  pub no_constant : joined ≡ false → nat_eq (length items) 0 ≡ false → None ≡ as_constant t
  no_constant j e = sym (ap as_constant app_view ∙ ap (λ b. as_constant (fapp f b (fpack items))) j ∙ some_args f items e)

  pub plain_view : (b : Bool) → joined ≡ b → plain t ≡ over f b (plain_all (fpack items))
  plain_view b j = ap plain app_view ∙ ap (λ c. over f c (plain_all (fpack items))) j
