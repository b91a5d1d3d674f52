-- A loop that lists the postings of an import one by one. Assumes nothing.
use Rattle.std.proofs.Common.{◌≡◌, ℕ, List, [], ◌∷◌, ◌++◌, Some, None, sym, ap, ◌∙◌, append_assoc, append-nil, arith}
use Rattle.std.specs.List.{flat_map}
use Rattle.std.proofs.lemmas.List.{flat_map_more}
use Rattle.imports.specs.declared.cursor.Postings.{Postings}
use Rattle.imports.specs.declared.posting.Posting.{Posting}
use Rattle.imports.specs.Cursors.{Ahead, Takes}
use Rattle.imports.specs.Totals.{Gives}
use Rattle.imports.proofs.Taking.{takes_gives}
use Rattle.listings.specs.Listings.{posting_line}

-- some of the postings are listed, and the others are ahead
pub record Sofar (ps : List Posting) (s : Postings) (out : List ℕ) : Type 0 where
  pub before : List Posting
  pub after : List Posting
  pub all : before ++ after ≡ ps
  pub ahead : Ahead s after
  pub shown : out ≡ flat_map posting_line before

pub one_more : (ps : List Posting) (s t : Postings) (out : List ℕ) (p : Posting) → Sofar ps s out → Takes s (Some p) t → Sofar ps t (out ++ posting_line p)
one_more ps s t out p h steps = at h.after h.all (takes_gives s t (Some p) h.after steps h.ahead)
  where
    at : (after : List Posting) → h.before ++ after ≡ ps → Gives after (Some p) (Ahead t) → Sofar ps t (out ++ posting_line p)
    at [] e g = let z : ◌≡◌ {A = ℕ} 0 1 = cc g.0 in absurd (omega arith)
    at (q ∷ qs) e g =
        let same : p ≡ q = cc g.0 in
        record {
          before = h.before ++ p ∷ [];
          after = qs;
          all = append_assoc h.before (p ∷ []) qs ∙ ap (λ x. h.before ++ x ∷ qs) same ∙ e;
          ahead = g.1;
          shown = ap (λ l. l ++ posting_line p) h.shown ∙ flat_map_more posting_line [] h.before p;
        }

pub no_more : (ps : List Posting) (s t : Postings) (out : List ℕ) → Sofar ps s out → Takes s None t → out ≡ flat_map posting_line ps
no_more ps s t out h steps = at h.after h.all (takes_gives s t None h.after steps h.ahead)
  where
    at : (after : List Posting) → h.before ++ after ≡ ps → Gives after None (Ahead t) → out ≡ flat_map posting_line ps
    at [] e g = h.shown ∙ ap (flat_map posting_line) (sym (append-nil h.before) ∙ e)
    at (q ∷ qs) e g = let z : ◌≡◌ {A = ℕ} 0 1 = cc g.0 in absurd (omega arith)
