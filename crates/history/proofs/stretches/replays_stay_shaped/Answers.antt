use Rattle.history.proofs.KeptNetworks.{replayed_network}
use Rattle.history.proofs.stretches.replays_stay_shaped.Goals as goal

pub returns : goal.returns
returns g c =
    λ d left es graph shaped is.
    let network = replayed_network g.P.Application.app g.P.Application.from_text es d left
    (record { graph = graph; shaped = shaped }) is in
    (network.graph, network.shaped)
