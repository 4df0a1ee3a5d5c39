-- What the methods of clap's builders make of a command and of an argument.
use Rattle.std.proofs.Common.{◌≡◌, ◌∙◌, ◌||◌, Bool, false, Some, ap, ap₂}
use Rattle.std.specs.Borrow.{Bor}
use Rattle.clap.specs.Simple.{app_of_fields}
use Rattle.clap.specs.Words.{AddsArg, AddsSubcommand, App, Rule, Text, new_rule, rule_of, with_rule}
use Rattle.clap.specs.Words.{with_subcommand}
use Rattle.clap.specs.declared.builder.action.ArgAction.{ArgAction}
use Rattle.clap.specs.declared.builder.arg.Arg.{Arg}
use Rattle.clap.specs.declared.builder.texts.Texts.TheVariants.{One}
use Rattle.clap.specs.declared.builder.command.Command.{Command}
use Rattle.clap.specs.declared.builder.command.Command.TheOpen.{Command-F}
use Rattle.clap.specs.declared.builder.command.Command.TheViews.{out-Command as fields_of}
use Rattle.command_words.specs.Words.{IsCommand, IsWord}

-- ---- a command

-- a text of help changes nothing that is read
pub same_command : (app : App) (old new : Command) (fields : Command-F Command) → IsCommand app old
    → fields_of new ≡ fields → app_of_fields fields ≡ app_of_fields (fields_of old)
    → fields.has_globals ≡ (fields_of old).has_globals → IsCommand app new
unfolding IsCommand
same_command app old new fields is made same local = (
  ap app_of_fields made ∙ same ∙ is.0,
  ap (λ (f : Command-F Command). f.has_globals) made ∙ local ∙ is.1,
)

pub adds_word : (app : App) (rule : Rule) (old : Command) (word : Arg) (new : Command) → IsCommand app old
    → IsWord rule word → AddsArg old word new → IsCommand (with_rule app rule) new
unfolding IsCommand IsWord
adds_word app rule old word new is reads adds =
    (adds.shape reads.1 ∙ ap₂ with_rule is.0 reads.0, adds.globals ∙ ap₂ (λ x y. x || y) is.1 reads.1)

pub adds_subcommand : (app below : App) (old sub new : Command) → IsCommand app old → IsCommand below sub
    → AddsSubcommand old sub new → IsCommand (with_subcommand app below.top) new
unfolding IsCommand
adds_subcommand app below old sub new is also adds = (
  adds.shape also.1 ∙ ap₂ with_subcommand is.0 (ap (λ (a : App). a.top) also.0),
  adds.globals ∙ ap₂ (λ x y. x || y) is.1 also.1,
)

-- ---- an argument

pub reads_new : (name : Text) (new : Arg) → rule_of new ≡ new_rule name → new.global ≡ false
    → IsWord (new_rule name) new
unfolding IsWord
reads_new name new rule local = (rule, local)

pub reads_long : (rule : Rule) (name : Bor Text) (old new : Arg) → IsWord rule old
    → new ≡ record old { long = Some name } → IsWord (record rule { long = Some name.now }) new
unfolding IsWord
reads_long rule name old new reads made = (
  ap rule_of made ∙ ap (λ (r : Rule). record r { long = Some name.now }) reads.0,
  ap (λ (a : Arg). a.global) made ∙ reads.1,
)

pub reads_value_name : (rule : Rule) (name : Bor Text) (old new : Arg) → IsWord rule old
    → new ≡ record old { val_names = One name } → IsWord (record rule { value_names = 1 }) new
unfolding IsWord
reads_value_name rule name old new reads made = (
  ap rule_of made ∙ ap (λ (r : Rule). record r { value_names = 1 }) reads.0,
  ap (λ (a : Arg). a.global) made ∙ reads.1,
)

pub reads_required : (rule : Rule) (given : Bool) (old new : Arg) → IsWord rule old
    → new ≡ record old { required = given } → IsWord (record rule { required = given }) new
unfolding IsWord
reads_required rule given old new reads made = (
  ap rule_of made ∙ ap (λ (r : Rule). record r { required = given }) reads.0,
  ap (λ (a : Arg). a.global) made ∙ reads.1,
)

pub reads_action : (rule : Rule) (does : ArgAction) (old new : Arg) → IsWord rule old
    → new ≡ record old { action = Some does } → IsWord (record rule { action = Some does }) new
unfolding IsWord
reads_action rule does old new reads made = (
  ap rule_of made ∙ ap (λ (r : Rule). record r { action = Some does }) reads.0,
  ap (λ (a : Arg). a.global) made ∙ reads.1,
)

pub reads_help : (rule : Rule) (text : Bor Text) (old new : Arg) → IsWord rule old
    → new ≡ record old { help = Some text } → IsWord rule new
unfolding IsWord
reads_help rule text old new reads made = (ap rule_of made ∙ reads.0, ap (λ (a : Arg). a.global) made ∙ reads.1)
