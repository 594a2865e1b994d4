-- What holds of the words of every call.
use Rattle.std.specs.Prelude.{◌≡◌, List}
use Rattle.clap.specs.Walk.{Text}
use Rattle.hc_words.specs.declared.requests.Request.{Request}
use Rattle.hc_words.specs.declared.settings.RunRequest.{RunRequest}
use Rattle.hc_words.specs.Requests.{Ask, Asks, AskRun, IsRun}
use Rattle.hc_words.specs.Order.{AreInOrder, AreRunInOrder, given_by}

-- words ask for one thing at most
abbrev pub OneRequest : Type 0
OneRequest = (words : List Text) (r s : Request) → Ask words r → Ask words s → r ≡ s

-- words in order ask for what their action asks for with the values of its options
abbrev pub InOrderAsk : Type 0
InOrderAsk = (words : List Text) (order : AreInOrder words) → (r : Request) × Ask words r × Asks order.action (given_by order.order.choices) r

-- and the same of the words of `run`
abbrev pub OneRun : Type 0
OneRun = (words : List Text) (r s : RunRequest) → AskRun words r → AskRun words s → r ≡ s

abbrev pub RunInOrderAsks : Type 0
RunInOrderAsks = (words : List Text) (order : AreRunInOrder words) → (r : RunRequest) × AskRun words r × IsRun (given_by order.choices) r
