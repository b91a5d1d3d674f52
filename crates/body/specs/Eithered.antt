-- One of two kinds of body is a body. Assumes nothing.
use Rattle.std.specs.Prelude.{◌≡◌, ℕ, ℤ, refl}
use Rattle.std.proofs.Common.{ap}
use Rattle.body.specs.declared.request.Request.{Request}
use Rattle.body.specs.declared.request.Request.TheVariants.{Read, Write, End}
use Rattle.either.specs.declared.Either.{Either}
use Rattle.either.specs.declared.Either.TheVariants.{Left, Right}
use Rattle.body.specs.Meaning.{Lawful, Same, ReadTold, WriteTaken}
use Rattle.either.specs.Either.{either, map_either}

module _ {A X : Type 0} (f : A → X) (l : A → ℕ) (l' : X → ℕ) (same : (a : A) → l' (f a) ≡ l a) where
  read_in : (a a' : A) (r : Request) → ReadTold l a a' r → ReadTold l' (f a) (f a') r
  read_in a a' (Read c) h = rw (same a, same a') h
  read_in a a' (Write c v) h = ap f h
  read_in a a' End h = ap f h

  write_in : (a a' : A) (r : Request) → WriteTaken l a a' r → WriteTaken l' (f a) (f a') r
  write_in a a' (Read c) h = ap f h
  write_in a a' (Write c v) h = rw (same a, same a') h
  write_in a a' End h = ap f h

module _ {A B : Type 0} {aA : A → Request} {tA : A → ℤ → A} {kA bA : A → A} {lA rA nA : A → ℕ} {aB : B → Request} {tB : B → ℤ → B} {kB bB : B → B} {lB rB nB : B → ℕ} (p : Lawful aA tA kA bA lA rA nA) (q : Lawful aB tB kB bB lB rB nB) where
  abbrev S : Either A B → Either A B → Type 0
  S = Same (map_either bA bB) (either rA rB) (either nA nB)

  left_same : (a a' : A) → Same bA rA nA a a' → S (Left a) (Left a')
  left_same a a' s = record { start = ap Left s.start; reaches = s.reaches; lasts = s.lasts }

  right_same : (a a' : B) → Same bB rB nB a a' → S (Right a) (Right a')
  right_same a a' s = record { start = ap Right s.start; reaches = s.reaches; lasts = s.lasts }

  pub either_lawful : Lawful (either aA aB) (λ e v. map_either (λ a. tA a v) (λ b. tB b v) e) (map_either kA kB) (map_either bA bB) (either lA lB) (either rA rB) (either nA nB)
  either_lawful = record {
    proper = elim [ Left a ↦ p.proper a | Right b ↦ q.proper b ];
    reads = elim [ Left a ↦ (λ v. read_in Left lA (either lA lB) (λ _. refl) a (tA a v) (aA a) (p.reads a v)) | Right b ↦ (λ v. read_in Right lB (either lA lB) (λ _. refl) b (tB b v) (aB b) (q.reads b v)) ];
    writes = elim [ Left a ↦ write_in Left lA (either lA lB) (λ _. refl) a (kA a) (aA a) (p.writes a) | Right b ↦ write_in Right lB (either lA lB) (λ _. refl) b (kB b) (aB b) (q.writes b) ];
    short = elim [ Left a ↦ p.short a | Right b ↦ q.short b ];
    same_told = elim [ Left a ↦ (λ v. left_same a (tA a v) (p.same_told a v)) | Right b ↦ (λ v. right_same b (tB b v) (q.same_told b v)) ];
    same_taken = elim [ Left a ↦ left_same a (kA a) (p.same_taken a) | Right b ↦ right_same b (kB b) (q.same_taken b) ];
    same_begin = elim [ Left a ↦ left_same a (bA a) (p.same_begin a) | Right b ↦ right_same b (bB b) (q.same_begin b) ];
  }
