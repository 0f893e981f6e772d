-- "Numbers in groups of seven bits, lowest first, high bit set on all but the last, shortest form, at most ten bytes."
-- Assumes nothing.
use Rattle.std.specs.Prelude.{ℕ, zero, suc, ◌+◌, ◌-◌, ◌*◌, ◌/◌, ◌%◌, Bool, cond, ◌&&◌, ◌||◌, List, [], ◌∷◌, ltb, eqb}

-- a number's groups of seven bits, lowest first, each but the last with 128 for the high bit; k bytes at most
unfoldable pub bytes_in : ℕ → ℕ → List ℕ
bytes_in zero v = []
bytes_in (suc k) v = cond (ltb v 128) (v ∷ []) ((v % 128 + 128) ∷ bytes_in k (v / 128))

unfoldable pub bytes_of : ℕ → List ℕ
bytes_of v = bytes_in 10 v

-- how many groups of seven bits a number has, counted up to k
unfoldable pub groups_in : ℕ → ℕ → ℕ
groups_in zero v = 0
groups_in (suc k) v = cond (ltb v 128) 1 (suc (groups_in k (v / 128)))

unfoldable pub width_of : ℕ → ℕ
width_of v = groups_in 10 v

-- What stands at the head of bytes: a number and how many bytes it takes; the end, before the number's last byte; or what is no number's shortest form.
pub data Found : Type 0 where
  found : ℕ → ℕ → Found
  cut_off : Found
  not_shortest : Found

-- a byte that is not the last gives the lowest seven bits, and what follows it the others
abbrev pub under : ℕ → Found → Found
under b (found v n) = found (b - 128 + 128 * v) (suc n)
under b cut_off = cut_off
under b not_shortest = not_shortest

-- after n bytes of a number, b is a 0, though not the first byte, so that the number is "not in shortest form"; or "its tenth byte over 1"
unfoldable pub ill_formed : ℕ → ℕ → Bool
ill_formed n b = (ltb 0 n && eqb b 0) || (eqb n 9 && ltb 1 b)

-- what stands at the head of bytes, after n bytes of a number; the tenth, if it is in good form, is at most 1 and so the last
unfoldable pub find_from : ℕ → List ℕ → Found
find_from n [] = cut_off
find_from n (b ∷ s) = cond (ill_formed n b) not_shortest (cond (ltb b 128) (found b 1) (under b (find_from (suc n) s)))
