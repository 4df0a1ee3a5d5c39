-- What the words of a subcommand have, where clap finds no fault in them, by the subcommand's name.
use Rattle.std.proofs.Common.{◌≡◌, ◌∙◌, List, Some, codes, false, inl, inr, refl, sym, true≢false}
use Rattle.std.proofs.lemmas.Slice.Eq.{bytes_eq-Decides}
use Rattle.std.specs.Str.{bytes_eq}
use Rattle.clap.specs.Words.{Row, Text}
use Rattle.command_words.specs.Words.{HasDrive, HasJob, HasVerify}

module _ (name : Text) (rows : List Row) where
  -- no name is two
  apart : (a b : Text) → bytes_eq a b ≡ false → name ≡ a → name ≡ b → ⊥
  apart a b differ is here = true≢false (sym ((bytes_eq-Decides a b).1 (sym is ∙ here)) ∙ differ)

  pub drive_of : HasJob (Some (name, rows)) → name ≡ codes "drive" → HasDrive rows
  drive_of (inl (inl (is, has))) here = absurd (apart (codes "replay") (codes "drive") refl is here)
  drive_of (inl (inr (is, has))) here = absurd (apart (codes "check") (codes "drive") refl is here)
  drive_of (inr (inl (is, has))) here = absurd (apart (codes "picture") (codes "drive") refl is here)
  drive_of (inr (inr (inl (is, has)))) here = absurd (apart (codes "record") (codes "drive") refl is here)
  drive_of (inr (inr (inr (inl (is, has))))) here = absurd (apart (codes "threads") (codes "drive") refl is here)
  drive_of (inr (inr (inr (inr (inl (is, has)))))) here = has
  drive_of (inr (inr (inr (inr (inr (inl (is, has))))))) here = absurd (apart (codes "topology") (codes "drive") refl is here)
  drive_of (inr (inr (inr (inr (inr (inr (inl is))))))) here = absurd (apart (codes "explain") (codes "drive") refl is here)
  drive_of (inr (inr (inr (inr (inr (inr (inr (inl is)))))))) here = absurd (apart (codes "tables") (codes "drive") refl is here)
  drive_of (inr (inr (inr (inr (inr (inr (inr (inr (inl (is, has)))))))))) here = absurd (apart (codes "plan") (codes "drive") refl is here)
  drive_of (inr (inr (inr (inr (inr (inr (inr (inr (inr (inl (is, has))))))))))) here = absurd (apart (codes "session") (codes "drive") refl is here)
  drive_of (inr (inr (inr (inr (inr (inr (inr (inr (inr (inr (inl (is, has)))))))))))) here = absurd (apart (codes "explore") (codes "drive") refl is here)
  drive_of (inr (inr (inr (inr (inr (inr (inr (inr (inr (inr (inr (inl (is, has))))))))))))) here = absurd (apart (codes "page") (codes "drive") refl is here)
  drive_of (inr (inr (inr (inr (inr (inr (inr (inr (inr (inr (inr (inr (is, has))))))))))))) here = absurd (apart (codes "verify") (codes "drive") refl is here)

  pub verify_of : HasJob (Some (name, rows)) → name ≡ codes "verify" → HasVerify rows
  verify_of (inl (inl (is, has))) here = absurd (apart (codes "replay") (codes "verify") refl is here)
  verify_of (inl (inr (is, has))) here = absurd (apart (codes "check") (codes "verify") refl is here)
  verify_of (inr (inl (is, has))) here = absurd (apart (codes "picture") (codes "verify") refl is here)
  verify_of (inr (inr (inl (is, has)))) here = absurd (apart (codes "record") (codes "verify") refl is here)
  verify_of (inr (inr (inr (inl (is, has))))) here = absurd (apart (codes "threads") (codes "verify") refl is here)
  verify_of (inr (inr (inr (inr (inl (is, has)))))) here = absurd (apart (codes "drive") (codes "verify") refl is here)
  verify_of (inr (inr (inr (inr (inr (inl (is, has))))))) here = absurd (apart (codes "topology") (codes "verify") refl is here)
  verify_of (inr (inr (inr (inr (inr (inr (inl is))))))) here = absurd (apart (codes "explain") (codes "verify") refl is here)
  verify_of (inr (inr (inr (inr (inr (inr (inr (inl is)))))))) here = absurd (apart (codes "tables") (codes "verify") refl is here)
  verify_of (inr (inr (inr (inr (inr (inr (inr (inr (inl (is, has)))))))))) here = absurd (apart (codes "plan") (codes "verify") refl is here)
  verify_of (inr (inr (inr (inr (inr (inr (inr (inr (inr (inl (is, has))))))))))) here = absurd (apart (codes "session") (codes "verify") refl is here)
  verify_of (inr (inr (inr (inr (inr (inr (inr (inr (inr (inr (inl (is, has)))))))))))) here = absurd (apart (codes "explore") (codes "verify") refl is here)
  verify_of (inr (inr (inr (inr (inr (inr (inr (inr (inr (inr (inr (inl (is, has))))))))))))) here = absurd (apart (codes "page") (codes "verify") refl is here)
  verify_of (inr (inr (inr (inr (inr (inr (inr (inr (inr (inr (inr (inr (is, has))))))))))))) here = has
