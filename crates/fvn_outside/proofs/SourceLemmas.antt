-- Reads one after another.
use Rattle.std.proofs.Common.{◌≡◌, ◌+◌, ◌-◌, ◌<◌, ◌≤◌, ◌++◌, ℕ, List, Option, Some, None, length, take, drop, ap, sym, ◌∙◌, append-nil, append_assoc, IfSome, arith, length-append, length-take}
use Rattle.std.proofs.lemmas.List.{drop-drop, take-append-drop, take-take, take_rest}
use Rattle.std.specs.Option.{option_map}
use Rattle.std.specs.Io.KnownBytes.{IsAtEnd}
use Rattle.fvn_outside.specs.Source.{Takes, TakesCount, TakesAtMost}

-- what read_all has done when it holds these bytes
pub record IsReadTo (before after : Option (List ℕ)) (bytes : List ℕ) (limit : ℕ) (faults_before faults_after : ℕ) : Type 0 where
  pub within : length bytes ≤ limit
  pub taken : Takes before after bytes
  pub uncounted : faults_after ≡ faults_before

pub Takes-append : (a b c : Option (List ℕ)) (xs ys : List ℕ) → Takes a b xs → Takes b c ys → Takes a c (xs ++ ys)
Takes-append a b None xs ys h k = h ∙ ap (option_map (λ rest. xs ++ rest)) k
Takes-append a b (Some ws) xs ys h k = h ∙ (ap (option_map (λ rest. xs ++ rest)) k ∙ ap Some (sym (append_assoc xs ys ws)))

-- the bytes held, and the first n bytes of a buffer after them
pub length-read : (bytes buffer : List ℕ) (n : ℕ) → n ≤ length buffer → length (bytes ++ take n buffer) ≡ length bytes + n
length-read bytes buffer n h = simp (length-append, length-take) (omega arith)

pub TakesCount-read : (a b c : Option (List ℕ)) (bytes buffer : List ℕ) (n m : ℕ) → Takes a b bytes → Takes b c (take n buffer) → n ≤ length buffer → length bytes + n ≡ m → TakesCount a c m
TakesCount-read a b c bytes buffer n m h k bound e =
    (bytes ++ take n buffer, rw (length-read bytes buffer n bound) e, Takes-append a b c bytes (take n buffer) h k)

pub TakesAtMost-read : (a b c : Option (List ℕ)) (bytes buffer : List ℕ) (n m : ℕ) → Takes a b bytes → Takes b c (take n buffer) → n ≤ length buffer → length bytes + n ≤ m → TakesAtMost a c m
TakesAtMost-read a b c bytes buffer n m h k bound le =
    (bytes ++ take n buffer, rw (length-read bytes buffer n bound) le, Takes-append a b c bytes (take n buffer) h k)

-- all was taken, where nothing is left
pub Takes-all : (before after : Option (List ℕ)) (bytes : List ℕ) → Takes before after bytes → IsAtEnd after → IfSome before (λ left. bytes ≡ left)
Takes-all before None bytes h e = rw h tt
Takes-all before (Some rest) bytes h e = rw (h, e) (sym (append-nil bytes))

-- more than n bytes were left, where the next n + 1 were taken
pub TakesCount-over : (before after : Option (List ℕ)) (n : ℕ) → TakesCount before after (n + 1) → IfSome before (λ left. n < length left)
TakesCount-over before None n (bytes, e, h) = rw h tt
TakesCount-over before (Some rest) n (bytes, e, h) = rw h (simp length-append (omega arith))

-- the next n bytes after the first t, where what is left is what follows the first t
pub Takes-next : (t n : ℕ) (xs given : List ℕ) → given ≡ take n (drop t xs) → Takes (Some (drop t xs)) (Some (drop (t + n) xs)) given
Takes-next t n xs given e =
    ap Some (sym (rw (e, ← drop-drop n t xs) (take-append-drop n (drop t xs))))

-- the next n bytes, cut from the next m
pub take-next : (t n m : ℕ) (xs : List ℕ) → n ≤ m → take n (take m (take (length xs - t) (drop t xs))) ≡ take n (drop t xs)
take-next t n m xs h = rw take_rest (take-take n m (drop t xs) h)
