-- One word more.
use Rattle.std.proofs.Common.{◌≡◌, ◌<◌, ◌≤◌, List, String, Global, length, map, sym, ap, ◌∙◌, subst}
use Rattle.std.proofs.lemmas.List.{length-map}
use Rattle.std.specs.Prelude.{string_bytes}
use Rattle.fvn_cmd_words.specs.Words.{Word}
use Rattle.fvn_cmd_words.specs.inner.Reading.{next_of}
use Rattle.fvn_cmd_words.proofs.Steps.{there, read_begin, read_step, read_wrong, read_end}
use Rattle.fvn_cmd_words.proofs.reading.arguments_of.Goals as goal

abbrev spoken : List (String Global) → List Word
spoken words = map (string_bytes {Z = Global}) words

as_long : (words : List (String Global)) → length (spoken words) ≡ length words
as_long words = length-map words (string_bytes {Z = Global})

pub loop-i-init : goal.loop-i-init
loop-i-init c = read_begin (spoken c.args.words.now) (subst (λ n. 1 ≤ n) (sym (as_long c.args.words.now)) c.requires)

pub loop-i-preserved : goal.loop-i-preserved
loop-i-preserved c =
    let within : c.loop-i.i < length c.args.words.now = c.loop-i-test.true in
    let inside : c.loop-i.i < length (spoken c.args.words.now) = subst (λ n. c.loop-i.i < n) (sym (as_long c.args.words.now)) within in
    let word = there (string_bytes {Z = Global}) c.args.words.now c.loop-i.i c.index-words-i.result c.index-words-i.result within c.index-words-i.is in
    let is = c.next_of-now.ensures ∙ ap (next_of c.loop-i.state.mode) (c.as_bytes.ensures.value ∙ sym word) in
    read_step (spoken c.args.words.now) c.loop-i.state c.loop-i.i c.next_of-now.result inside is c.loop-i.invariant c.in-Some.other (sym c.taken-more.ensures ∙ c.in-Some.is)

pub returns-in-None : goal.returns-in-None
returns-in-None c =
    let within : c.loop-i.i < length c.args.words.now = c.loop-i-test.true in
    let inside : c.loop-i.i < length (spoken c.args.words.now) = subst (λ n. c.loop-i.i < n) (sym (as_long c.args.words.now)) within in
    let word = there (string_bytes {Z = Global}) c.args.words.now c.loop-i.i c.index-words-i.result c.index-words-i.result within c.index-words-i.is in
    let is = c.next_of-now.ensures ∙ ap (next_of c.loop-i.state.mode) (c.as_bytes.ensures.value ∙ sym word) in
    read_wrong (spoken c.args.words.now) c.loop-i.state c.loop-i.i c.next_of-now.result inside is c.loop-i.invariant (sym c.taken-more.ensures ∙ c.in-None.is)

pub returns : goal.returns
returns c =
    let end : length (spoken c.args.words.now) ≤ c.loop-i.i = subst (λ n. n ≤ c.loop-i.i) (sym (as_long c.args.words.now)) c.loop-i-test.false in
    read_end (spoken c.args.words.now) c.loop-i.state c.loop-i.i end c.loop-i.invariant c.closed.result c.closed.ensures
