-- How the steps of `variants` make its reply.
use Rattle.std.proofs.Common.{◌≡◌, ℕ, List, [], ◌∷◌, length, refl, sym, ap, ◌∙◌, subst, inl, inr, arith}
use Rattle.std.proofs.lemmas.Slice.Zip.{AllZip-long}
use Rattle.fvn_terms.specs.declared.declarations.Declarations.{Declarations}
use Rattle.fvn_terms.specs.Laws.{RewritingIsLawful}
use Rattle.fvn_terms.specs.Plain.{term}
use Rattle.fvn_theory.specs.Equations.{equations_of}
use Rattle.fvn_forms.specs.Good.{IsGood}
use Rattle.fvn_forms.specs.Flat.{FlatTerm}
use Rattle.fvn_signature.specs.Queries.{IsCompleted}
use Rattle.fvn_fold.specs.Starts.{IsStartable}
use Rattle.fvn_syntax.specs.declared.names.Names.{Names}
use Rattle.fvn_syntax.specs.Pieces.{Text}
use Rattle.fvn_problems.specs.declared.fault.ProblemFault.{ProblemFault}
use Rattle.fvn_problems.specs.declared.query.Query.{Query}
use Rattle.fvn_problems.specs.Queries.{IsQuery, RefusesQuery, HasVariables}
use Rattle.fvn_problems.specs.Laws.{QueryNamesAreWords, QueryNamesDiffer}
use Rattle.fvn_terms.specs.Signature.{IsTerm}
use Rattle.fvn_module.specs.Contents.{Contents}
use Rattle.fvn_cover.specs.declared.variant.Variant.{Variant}
use Rattle.fvn_exploring.specs.declared.ends.Explored.{Explored}
use Rattle.fvn_closure.specs.Closing.{reached_of}
use Rattle.fvn_answer.specs.Asked.{AreAsked}
use Rattle.fvn_answer.specs.Answers.{IsAnswerText}
use Rattle.fvn_answer.specs.Laws.{EqualLinesCover}
use Rattle.fvn_cmd.specs.declared.status.Status.{Status}
use Rattle.fvn_cmd.specs.declared.status.Status.TheVariants.{ProblemRefused}
use Rattle.fvn_cmd.specs.Refusing.{IsProblemRefusalLine}
use Rattle.fvn_cmd.proofs.Replying.{in_module, refused_words}
use Rattle.fvn_cmd.specs.Ends.{status_of_end}
use Rattle.fvn_cmd_words.specs.declared.reach.Reach.{Reach}
use Rattle.fvn_cmd_exploring.specs.Searches.{IsSearched}
use Rattle.fvn_cmd_variants.specs.Asked.{flattened}
use Rattle.fvn_cmd_exploring.specs.Ends.{end_told}
use Rattle.fvn_cmd_exploring.specs.Answers.{IsAnswerAfter}
use Rattle.fvn_cmd_variants.specs.Solutions.{Found, end_of, IsLineOf}
use Rattle.fvn_cmd_variants.specs.Replies.{variants_words, IsAnswer, IsVariantsAnswer}
use Rattle.fvn_cmd_variants.specs.inner.Steps.{IsStartOf, IsTermIn, AreLinesOfVariants, RepliesIn}
use Rattle.fvn_cmd_variants.proofs.Headline.{headline, finite}
use Rattle.fvn_cmd_variants.proofs.Listed.{shown-lines}

-- the list that is explored has the flat form of the term alone
pub begins : (m : Contents) (t : Query) (d : Declarations) → d ≡ m.signature → (items : List FlatTerm) → IsStartOf d (term t.term) items → (start : List FlatTerm) → start ≡ items → IsStartOf m.signature (term t.term) start
begins m t d signature_is items h start is = subst (IsStartOf m.signature (term t.term)) (sym is) (subst (λ x. IsStartOf x (term t.term) items) signature_is h)

module _ (m : Contents) (t : Query) (reach : Reach) (start : List FlatTerm) (from : IsStartOf m.signature (term t.term) start) where
  pub startable : IsStartable m.signature start
  startable = subst (IsStartable m.signature) (sym from.is) (record { some = omega arith; fit = (from.fits, tt) })

  pub searched_flat : (x : Explored) → IsSearched m reach start x → IsSearched m reach (flattened m t ∷ []) x
  searched_flat x s = subst (λ l. IsSearched m reach l x) from.is s

  pub answer-told : RewritingIsLawful → EqualLinesCover → IsGood m.signature → IsCompleted m.signature → HasVariables m.signature t → (x : Explored) → IsSearched m reach start x →
      (variants : List Variant) → variants ≡ x.variants → (lines : List Text) → AreLinesOfVariants m t variants lines → (status : Status) (text : List ℕ) → IsAnswerAfter m reach x.end lines status text → IsAnswer m t reach status text
  answer-told rewriting law good completed vars x s variants are lines h status text a =
      let f : Found = record { explored = x; loss = a.loss } in
      let flat = searched_flat x s in
      let promised = headline m t vars (rewriting m.signature (equations_of m.equations)) from.equal reach good completed from.fits x flat f refl in
      let listed : AreLinesOfVariants m t x.variants lines = subst (λ l. AreLinesOfVariants m t l lines) are h in
      let end_is : end_told reach x.end a.loss (length lines) ≡ end_of reach f = ap (λ n. end_told reach x.end a.loss n) (AllZip-long (λ v line. IsLineOf m t (reached_of v) line) x.variants lines listed) in
      record {
        found = f;
        solution = record {
          explored = flat.explored;
          headline = promised;
          finite = finite m t vars (rewriting m.signature (equations_of m.equations)) from.equal reach good completed from.fits x flat;
          loss_is = a.loss_is;
        };
        shown = shown-lines m t law reach f lines listed promised.apart text (subst (λ e. IsAnswerText m.signature m.names lines e text) end_is a.shown);
        status_is = a.status_is ∙ ap status_of_end end_is;
      }

module _ (m : Contents) (d : Declarations) (names : Names) (signature_is : d ≡ m.signature) (names_are : names ≡ m.names) (reach : Reach) where
  pub term_in : (word : Text) (q : Query) → QueryNamesAreWords → QueryNamesDiffer → IsQuery d names word q → IsTerm d (term q.term) → HasVariables d q → IsTermIn m q
  term_in word q words differ is kinded vars = record {
    kinded = subst (λ x. IsTerm x (term q.term)) signature_is kinded;
    vars = subst (λ x. HasVariables x q) signature_is vars;
    asked =
        subst (λ x. AreAsked x q.names.texts q.vars) signature_is
        (record {
          distinct = vars.distinct;
          named = λ x c. vars.named x ((vars.exact x).0 c);
          words = words d names word q is;
          distinct_texts = differ d names word q is;
        });
  }

  pub term_refused : (word : List ℕ) (fault : ProblemFault) → RefusesQuery d names word fault → (s : Status) (t : List ℕ) → s ≡ ProblemRefused → IsProblemRefusalLine fault t → RepliesIn m word reach s t
  term_refused word fault h s t e is bytes loaded =
      refused_words bytes (variants_words word) (IsVariantsAnswer bytes word reach) m loaded fault
      (inl (in_module m d names signature_is names_are (λ x y. RefusesQuery x y word fault) h)) s t e is

  pub term_answered : (word : List ℕ) (q : Query) → IsQuery d names word q → (s : Status) (t : List ℕ) → IsAnswer m q reach s t → RepliesIn m word reach s t
  term_answered word q h s t a bytes loaded =
      inr (m, q, (record { module_text = loaded; term_text = in_module m d names signature_is names_are (λ x y. IsQuery x y word q) h }, a))
