-- Segments of a list of bytes: a segment cut out, a segment that stands at an offset, and the numbers of one, two and four
-- bytes in them, both ways.
use Rattle.std.proofs.Common.{◌≡◌, ℕ, zero, suc, ◌+◌, ◌-◌, ◌*◌, ◌/◌, ◌%◌, ◌<◌, ◌≤◌, ltb, List, [], ◌∷◌, ◌++◌, length, get_or, take, drop, ℤ, pos, negsuc, neg_ℤ, sym, refl, ap, ◌∙◌, subst, inl, inr, arith, take-add}
use Rattle.std.proofs.ByRecursion.{All-get_or}
use Rattle.std.proofs.lemmas.List.{length-append, length-take, length-drop, get_or_append_left, get_or-append-add, get_or-drop, drop-drop, drop_more, take_all, take-append-drop}
use Rattle.std.proofs.lemmas.Bool.{cases_lt, cond-true, cond-false, lt-ltb, le-ltb}
use Rattle.rows.specs.Bytes.{word_at, long_at, signed, number_at}
use Rattle.formats.specs.Writing.{AreBytes, word_bytes, complement, signed_bytes, joined}

-- so many bytes from an offset
abbrev pub cut : ℕ → ℕ → List ℕ → List ℕ
cut at n xs = take n (drop at xs)

-- two segments, one behind the other
pub cut_both : (at a b : ℕ) (xs : List ℕ) → cut at (a + b) xs ≡ cut at a xs ++ cut (at + a) b xs
cut_both at a b xs = take-add a b (drop at xs) ∙ ap (λ (ys : List ℕ). cut at a xs ++ take b ys) (drop-drop a at xs)

pub cut_all : (xs : List ℕ) → cut 0 (length xs) xs ≡ xs
cut_all xs = take_all (length xs) xs (omega arith)

-- a segment and all that is behind it
pub cut_drop : (at n : ℕ) (xs : List ℕ) → cut at n xs ++ drop (at + n) xs ≡ drop at xs
cut_drop at n xs = ap (λ (ys : List ℕ). cut at n xs ++ ys) (sym (drop-drop n at xs)) ∙ take-append-drop n (drop at xs)

pub cut_length : (at n : ℕ) (xs : List ℕ) → at + n ≤ length xs → length (cut at n xs) ≡ n
cut_length at n xs l = simp (length-take, length-drop) (omega arith)

-- one byte more in front
pub cut_byte : (at n : ℕ) (xs : List ℕ) → at < length xs → cut at (suc n) xs ≡ get_or xs at 0 ∷ cut (at + 1) n xs
cut_byte at n xs l = ap (take (suc n)) (drop_more xs at 0 l)

-- a segment stands at an offset, byte by byte
abbrev pub Stands : List ℕ → ℕ → List ℕ → Type 0
Stands xs at seg = (k : ℕ) → k < length seg → get_or xs (at + k) 0 ≡ get_or seg k 0

pub stands_drop : (xs : List ℕ) (at : ℕ) (seg more : List ℕ) → drop at xs ≡ seg ++ more → Stands xs at seg
stands_drop xs at seg more e k l =
    sym (get_or-drop at xs k 0) ∙ ap (λ (ys : List ℕ). get_or ys k 0) e ∙ get_or_append_left seg more 0 k l

pub stands_behind : (front seg more : List ℕ) → Stands (front ++ (seg ++ more)) (length front) seg
stands_behind front seg more k l = get_or-append-add front (seg ++ more) k 0 ∙ get_or_append_left seg more 0 k l

-- the front and the back of a segment that stands
pub stands_left : (xs : List ℕ) (at : ℕ) (s t : List ℕ) → Stands xs at (s ++ t) → Stands xs at s
stands_left xs at s t h k l = h k (omega (arith, length-append s t)) ∙ get_or_append_left s t 0 k l

pub stands_right : (xs : List ℕ) (at n : ℕ) (s t : List ℕ) → length s ≡ n → Stands xs at (s ++ t) → Stands xs (at + n) t
stands_right xs at n s t e h k l =
    let p : at + n + k ≡ at + (length s + k) = omega arith in
    ap (λ (i : ℕ). get_or xs i 0) p ∙ h (length s + k) (omega (arith, length-append s t)) ∙ get_or-append-add s t k 0

-- a word in its bytes
pub word_value : (n : ℕ) → 256 * (n / 256) + n % 256 ≡ n
word_value n = omega arith

pub word_back : (xs : List ℕ) (at n : ℕ) → Stands xs at (word_bytes n) → word_at xs at ≡ n
word_back xs at n h =
    let a : get_or xs at 0 ≡ n / 256 = ap (λ (i : ℕ). get_or xs i 0) (omega arith) ∙ h 0 (omega arith) in
    let b : get_or xs (at + 1) 0 ≡ n % 256 = h 1 (omega arith) in
    rw (a, b) (word_value n)

-- a number below 256 in one byte
pub byte_back : (xs : List ℕ) (at n : ℕ) (more : List ℕ) → Stands xs at (n ∷ more) → get_or xs at 0 ≡ n
byte_back xs at n more h = ap (λ (i : ℕ). get_or xs i 0) (omega arith) ∙ h 0 (omega arith)

-- the bytes of the word that is read
high_byte : (a b : ℕ) → b < 256 → (256 * a + b) / 256 ≡ a
high_byte a b l = omega arith

low_byte : (a b : ℕ) → b < 256 → (256 * a + b) % 256 ≡ b
low_byte a b l = omega arith

pub word_only : (xs : List ℕ) → AreBytes xs → (at : ℕ) → at + 2 ≤ length xs → word_bytes (word_at xs at) ≡ cut at 2 xs
word_only xs bs at l =
    let b = All-get_or (λ b. b < 256) xs (at + 1) 0 (omega arith) bs in
    let h = high_byte (get_or xs at 0) (get_or xs (at + 1) 0) b in
    let d = low_byte (get_or xs at 0) (get_or xs (at + 1) 0) b in
    rw (h, d) (sym (cut_byte at 1 xs (omega arith) ∙ ap (λ (ys : List ℕ). get_or xs at 0 ∷ ys) (cut_byte (at + 1) 0 xs (omega arith))))

pub word_small : (xs : List ℕ) → AreBytes xs → (at : ℕ) → at + 2 ≤ length xs → word_at xs at < 65536
word_small xs bs at l =
    let a = All-get_or (λ b. b < 256) xs at 0 (omega arith) bs in
    let b = All-get_or (λ b. b < 256) xs (at + 1) 0 (omega arith) bs in
    omega arith

-- a signed number that 32 bits hold
abbrev pub Fits : ℤ → Type 0
Fits (pos n) = n < 2147483648
Fits (negsuc n) = n < 2147483648

negated : (n : ℕ) → n < 2147483648 → neg_ℤ (pos (4294967296 - (4294967295 - n))) ≡ negsuc n
negated n l = let e : 4294967296 - (4294967295 - n) ≡ suc n = omega arith in ap (λ (k : ℕ). neg_ℤ (pos k)) e

-- two's complement both ways
signed_complement : (z : ℤ) → Fits z → signed (complement z) ≡ z
signed_complement (pos n) l = cond-true (ltb n 2147483648) (pos n) _ (lt-ltb n 2147483648 l)
signed_complement (negsuc n) l =
    cond-false (ltb (4294967295 - n) 2147483648) (pos (4294967295 - n)) _ (le-ltb (4294967295 - n) 2147483648 (omega arith)) ∙ negated n l

complement_negated : (n : ℕ) → 0 < n → n ≤ 4294967296 → complement (neg_ℤ (pos n)) ≡ 4294967296 - n
complement_negated zero l m = absurd (omega arith)
complement_negated (suc n) l m = omega arith

complement_signed : (n : ℕ) → n < 4294967296 → complement (signed n) ≡ n
complement_signed n l =
    elim (cases_lt n 2147483648) [
      | inl h ↦ ap complement (cond-true (ltb n 2147483648) (pos n) (neg_ℤ (pos (4294967296 - n))) (lt-ltb n 2147483648 h))
      | inr h ↦
          ap complement (cond-false (ltb n 2147483648) (pos n) (neg_ℤ (pos (4294967296 - n))) (le-ltb n 2147483648 h))
          ∙ complement_negated (4294967296 - n) (omega arith) (omega arith) ∙ omega arith
    ]

-- a signed number in its bytes
long_value : (n : ℕ) → 65536 * (n / 65536) + n % 65536 ≡ n
long_value n = omega arith

pub number_back : (xs : List ℕ) (at : ℕ) (z : ℤ) → Fits z → Stands xs at (signed_bytes z) → number_at xs at ≡ z
number_back xs at z l h =
    let a = word_back xs at (complement z / 65536) (stands_left xs at (word_bytes (complement z / 65536)) (word_bytes (complement z % 65536)) h) in
    let b = word_back xs (at + 2) (complement z % 65536) (stands_right xs at 2 (word_bytes (complement z / 65536)) (word_bytes (complement z % 65536)) refl h) in
    let n : long_at xs at ≡ complement z = rw (a, b) (long_value (complement z)) in
    ap signed n ∙ signed_complement z l

-- the bytes of the signed number that is read
high_word : (a b : ℕ) → b < 65536 → (65536 * a + b) / 65536 ≡ a
high_word a b l = omega arith

low_word : (a b : ℕ) → b < 65536 → (65536 * a + b) % 65536 ≡ b
low_word a b l = omega arith

pub number_only : (xs : List ℕ) → AreBytes xs → (at : ℕ) → at + 4 ≤ length xs → signed_bytes (number_at xs at) ≡ cut at 4 xs
number_only xs bs at l =
    let a = word_small xs bs at (omega arith) in
    let b = word_small xs bs (at + 2) (omega arith) in
    let c : complement (number_at xs at) ≡ long_at xs at = complement_signed (long_at xs at) (omega arith) in
    ap (λ (n : ℕ). word_bytes (n / 65536) ++ word_bytes (n % 65536)) c
    ∙ ap (λ (n : ℕ). word_bytes n ++ word_bytes (long_at xs at % 65536)) (high_word (word_at xs at) (word_at xs (at + 2)) b)
    ∙ ap (λ (n : ℕ). word_bytes (word_at xs at) ++ word_bytes n) (low_word (word_at xs at) (word_at xs (at + 2)) b)
    ∙ ap (λ (ys : List ℕ). ys ++ word_bytes (word_at xs (at + 2))) (word_only xs bs at (omega arith))
    ∙ ap (λ (ys : List ℕ). cut at 2 xs ++ ys) (word_only xs bs (at + 2) (omega arith))
    ∙ sym (cut_both at 2 2 xs)

-- elements of one size, one behind another
module _ {X : Type 0} (write : X → List ℕ) (size : ℕ) where
  pub joined_length : ((x : X) → length (write x) ≡ size) → (xs : List X) → length (joined write xs) ≡ size * length xs
  joined_length s [] = omega arith
  joined_length s (x ∷ xs) =
      let e = s x in
      let r = joined_length s xs in
      length-append (write x) (joined write xs) ∙ omega (arith, e, r)

  -- each stands at its own offset
  pub joined_stands : ((x : X) → length (write x) ≡ size) → (bytes : List ℕ) (at : ℕ) (xs : List X) → Stands bytes at (joined write xs) → (k : ℕ) (d : X) → k < length xs → Stands bytes (at + size * k) (write (get_or xs k d))
  joined_stands s bytes at [] h k d l = absurd (omega arith)
  joined_stands s bytes at (x ∷ xs) h zero d l =
      let e : at + size * 0 ≡ at = omega arith in
      subst (λ (i : ℕ). Stands bytes i (write x)) (sym e) (stands_left bytes at (write x) (joined write xs) h)
  joined_stands s bytes at (x ∷ xs) h (suc k) d l =
      let e : at + size + size * k ≡ at + size * suc k = omega arith in
      subst (λ (i : ℕ). Stands bytes i (write (get_or xs k d))) e
      (joined_stands s bytes (at + size) xs (stands_right bytes at size (write x) (joined write xs) (s x) h) k d (omega arith))

  -- and is cut out there
  pub joined_only : (bytes : List ℕ) (at : ℕ) (xs : List X) (d : X) → ((k : ℕ) → k < length xs → write (get_or xs k d) ≡ cut (at + size * k) size bytes) → joined write xs ≡ cut at (size * length xs) bytes
  joined_only bytes at [] d h = let e : size * 0 ≡ 0 = omega arith in sym (ap (λ (n : ℕ). cut at n bytes) e)
  joined_only bytes at (x ∷ xs) d h =
      let z : at + size * 0 ≡ at = omega arith in
      let a : write x ≡ cut at size bytes = h 0 (omega arith) ∙ ap (λ (i : ℕ). cut i size bytes) z in
      let b = joined_only bytes (at + size) xs d
      (λ k l. let e : at + size * suc k ≡ at + size + size * k = omega arith in h (suc k) (omega arith) ∙ ap (λ (i : ℕ). cut i size bytes) e) in
      let e : size + size * length xs ≡ size * suc (length xs) = omega arith in
      ap (λ (ys : List ℕ). ys ++ joined write xs) a ∙ ap (λ (ys : List ℕ). cut at size bytes ++ ys) b
      ∙ sym (cut_both at size (size * length xs) bytes) ∙ ap (λ (n : ℕ). cut at n bytes) e
