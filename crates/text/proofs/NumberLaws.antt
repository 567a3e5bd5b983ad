-- The digits of a number.
use Rattle.std.proofs.Common.{◌≡◌, refl, sym, ap, ◌∙◌, ℕ, zero, suc, ◌+◌, ◌*◌, ◌-◌, ◌/◌, ◌%◌, ◌^◌, ◌≤◌, ◌<◌, Bool, true, false, cond, ltb, List, [], ◌∷◌, ◌++◌, length, length-append, get_or, append_assoc, append-nil, arith}
use Rattle.std.proofs.Math.Nat.{pow-suc}
use Rattle.std.proofs.Math.Numerals.{unary_clauses}
use Rattle.std.proofs.lemmas.Bool.{lt-ltb, le-ltb}
use Rattle.io.specs.Digits.{last_digits, IsDigitCount, hex_digit_ascii}
use Rattle.text.specs.Numbers.{digits_of, decimal, spaced}

glyph_is : (n : ℕ) → hex_digit_ascii (n % 10) ≡ 48 + n % 10
glyph_is n = rw (lt-ltb (n % 10) 10 (omega arith))

pow_some : (k : ℕ) → 1 ≤ 10 ^ k
pow_some zero = omega arith
pow_some (suc k) = omega (arith, pow-suc 10 k, pow_some k)

-- the fewest digits that hold a number are its digits
pub spelled : (more n k : ℕ) → n < 10 ^ suc more → IsDigitCount 10 1 n k → last_digits 10 k n ≡ digits_of more n
unfolding digits_of
spelled more n zero h f = absurd (omega (arith, f.0))
spelled zero n (suc zero) h f = rw (glyph_is n)
spelled zero n (suc (suc k)) h f =
    let g : 10 ^ k * 10 ≤ n = simp unary_clauses at (f.2 (omega arith)) in
    absurd (omega (arith, pow_some k))
spelled (suc more) n (suc zero) h f =
    let l : n < 10 = f.1 in
    let e : n % 10 ≡ n = omega arith in
    rw (glyph_is n, lt-ltb n 10 l, e)
spelled (suc more) n (suc (suc k)) h f =
    let g : 10 ^ k * 10 ≤ n = simp unary_clauses at (f.2 (omega arith)) in
    let l : 10 ≤ n = omega (arith, pow_some k) in
    let less : n / 10 < 10 ^ suc k = omega (arith, f.1, pow-suc 10 (suc k)) in
    let all : n / 10 < 10 ^ suc more = omega (arith, h, pow-suc 10 (suc more)) in
    let most : 1 < suc k → 10 ^ (suc k - 1) ≤ n / 10 = λ _. simp unary_clauses (omega arith) in
    rw (glyph_is n, le-ltb n 10 l, spelled more (n / 10) (suc k) all (omega arith, less, most))

pub digits_few : (more n : ℕ) → length (digits_of more n) ≤ suc more
unfolding digits_of
digits_few zero n = omega arith
digits_few (suc more) n = go (ltb n 10) (digits_few more (n / 10))
  where
    go : (t : Bool) → length (digits_of more (n / 10)) ≤ suc more → length (cond t ((48 + n) ∷ []) (digits_of more (n / 10) ++ ((48 + n % 10) ∷ []))) ≤ suc (suc more)
    go true l = omega arith
    go false l = omega (arith, length-append (digits_of more (n / 10)) ((48 + n % 10) ∷ []))

pub decimal_is : (n k : ℕ) → n < 2 ^ 64 → IsDigitCount 10 1 n k → last_digits 10 k n ≡ decimal n
unfolding decimal
decimal_is n k h f = spelled 19 n k (omega arith) f

pub decimal_few : (n : ℕ) → length (decimal n) ≤ 20
unfolding decimal
decimal_few n = digits_few 19 n

-- the first numbers, a space after each
unfoldable pub spaced_to : List ℕ → ℕ → List ℕ
spaced_to l zero = []
spaced_to l (suc count) = spaced_to l count ++ (decimal (get_or l count 0) ++ 32 ∷ [])

spaced_more : (n : ℕ) (l : List ℕ) (count : ℕ) → spaced_to (n ∷ l) (suc count) ≡ (decimal n ++ 32 ∷ []) ++ spaced_to l count
unfolding spaced_to
spaced_more n l zero = sym (append-nil (decimal n ++ 32 ∷ []))
spaced_more n l (suc count) = rw (spaced_more n l count) (append_assoc (decimal n ++ 32 ∷ []) (spaced_to l count) (decimal (get_or l count 0) ++ 32 ∷ []))

pub spaced_last : (l : List ℕ) (n after : ℕ) → spaced (l ++ n ∷ []) after ≡ spaced_to l (length l) ++ (decimal n ++ after ∷ [])
unfolding spaced spaced_to
spaced_last [] n after = refl
spaced_last (m ∷ []) n after = refl
spaced_last (m ∷ k ∷ l) n after =
    ap (λ (x : List ℕ). (decimal m ++ 32 ∷ []) ++ x) (spaced_last (k ∷ l) n after)
    ∙ sym (append_assoc (decimal m ++ 32 ∷ []) (spaced_to (k ∷ l) (length (k ∷ l))) (decimal n ++ after ∷ []))
    ∙ ap (λ (x : List ℕ). x ++ (decimal n ++ after ∷ [])) (sym (spaced_more m (k ∷ l) (length (k ∷ l))))

-- one number, and the first of several
pub spaced_one : (n after : ℕ) → spaced (n ∷ []) after ≡ decimal n ++ after ∷ []
unfolding spaced
spaced_one n after = refl

pub spaced_first : (n m : ℕ) (l : List ℕ) (after : ℕ) → spaced (n ∷ m ∷ l) after ≡ (decimal n ++ 32 ∷ []) ++ spaced (m ∷ l) after
unfolding spaced
spaced_first n m l after = refl

pub spaced_none : (l : List ℕ) (after : ℕ) → length l ≡ 0 → spaced l after ≡ []
unfolding spaced
spaced_none [] after h = refl
spaced_none (n ∷ l) after h = absurd (omega arith)
