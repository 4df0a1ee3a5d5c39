-- The words that a generator gives, one after the other.
use Rattle.std.proofs.Common.{◌≡◌, ℕ, ap, ◌∙◌}
use Rattle.rand_pcg.specs.Lcg.{Lcg}
use Rattle.rand_pcg.specs.Pcg.{pcg32}
use Rattle.fault_inject.specs.Drawn.{next_words}

pub next_words-steps : (g a b c d e : Lcg) (v w x y z : ℕ) → (v, a) ≡ pcg32 g → (w, b) ≡ pcg32 a → (x, c) ≡ pcg32 b
    → (y, d) ≡ pcg32 c → (z, e) ≡ pcg32 d
    → ((v, w, x, y, z), e) ≡ next_words g
next_words-steps g a b c d e v w x y z first second third fourth fifth =
    ap (λ (p : ℕ × Lcg). ((v, w, x, y, p.0), p.1)) fifth
    ∙ ap (λ (p : ℕ × Lcg). let q = pcg32 p.1 in ((v, w, x, p.0, q.0), q.1)) fourth
    ∙ ap (λ (p : ℕ × Lcg). let q = pcg32 p.1 in let r = pcg32 q.1 in ((v, w, p.0, q.0, r.0), r.1)) third
    ∙ ap (λ (p : ℕ × Lcg). let q = pcg32 p.1 in let r = pcg32 q.1 in let s = pcg32 r.1
    in ((v, p.0, q.0, r.0, s.0), s.1)) second
    ∙ ap (λ (p : ℕ × Lcg). let q = pcg32 p.1 in let r = pcg32 q.1 in let s = pcg32 r.1 in let t = pcg32 s.1
    in ((p.0, q.0, r.0, s.0, t.0), t.1)) first
